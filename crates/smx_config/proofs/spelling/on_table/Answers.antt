use Rattle.std.proofs.Common.{◌≡◌, ◌++◌, ◌∷◌, [], true, false, string_bytes, arith}
use Rattle.std.proofs.lemmas.Grind.{common_steps}
use Rattle.std.proofs.lemmas.List.{append_assoc, map-append}
use Rattle.toml.proofs.Views.{Entry}
use Rattle.toml.specs.View.{members_view}
use Rattle.smx_config.specs.declared.unread_key.UnreadKey.{UnreadKey}
use Rattle.smx_config.specs.Keys.{is_read}
use Rattle.smx_config.specs.Unread.{names, unread_in}
use Rattle.smx_config.proofs.OneKey.{unread_in-read, unread_in-unread}
use Rattle.smx_config.proofs.spelling.on_table.Goals as goal

pub loop-key-preserved-in-Continue-branch-2 : goal.loop-key-preserved-in-Continue-branch-2
loop-key-preserved-in-Continue-branch-2 c =
    let (can, finite, same) = c.loop-key.invariant in
    let e : Entry = (c.in-Some.key.now, c.in-Some.field-0-1.now) in
    let iter : c.loop-key.key-iterator ≡ e ∷ c.next.new.self = grind (arith, common_steps) in
    let unread : is_read c.args.section (string_bytes e.0) ≡ false = grind (arith, common_steps) in
    let here = unread_in-unread c.args.section c.args.place.now e c.next.new.self unread in
    let whole = rw (iter, here) at same in
    let rest = unread_in c.args.section c.args.place.now (members_view c.next.new.self) in
    let said : string_bytes c.in_ok-unread.unread.name ≡ c.args.place.now ++ string_bytes e.0 = grind (arith, common_steps) in
    let grown : names c.push.new.self.items ≡ names c.loop-key.all.items ++ (c.args.place.now ++ string_bytes e.0) ∷ [] = rw (c.in_ok-push.ensures.items, map-append (λ (key : UnreadKey). string_bytes key.name) c.loop-key.all.items (c.in_ok-unread.unread ∷ []), said) in
    (tt, tt, rw (grown, append_assoc (names c.loop-key.all.items) ((c.args.place.now ++ string_bytes e.0) ∷ []) rest) whole)

pub loop-key-preserved : goal.loop-key-preserved
loop-key-preserved c =
    let (can, finite, same) = c.loop-key.invariant in
    let e : Entry = (c.in-Some.key.now, c.in-Some.field-0-1.now) in
    let iter : c.loop-key.key-iterator ≡ e ∷ c.next.new.self = grind (arith, common_steps) in
    let read : is_read c.args.section (string_bytes e.0) ≡ true = grind (arith, common_steps) in
    (tt, tt, rw (iter, unread_in-read c.args.section c.args.place.now e c.next.new.self read) at same)
