use Rattle.std.proofs.Common.{◌≡◌, ◌<◌, ◌==◌, ◌∷◌, ◌∙◌, ℕ, Some, true, false, length, reverse, get_or, refl, sym, subst, arith}
use Rattle.std.specs.Prelude.{slice_get, if◌then◌else◌}
use Rattle.std.proofs.lemmas.Grind.{common_steps}
use Rattle.std.proofs.lemmas.Option.{slice_get_read}
use Rattle.smx_slots.specs.declared.entries.Entry.{Entry}
use Rattle.smx_slots.specs.declared.movement.Movement.TheVariants.{Bound}
use Rattle.smx_slots.specs.Private.Entries.{entry_at}
use Rattle.smx_slots.specs.Private.LedgerFields.{book_of}
use Rattle.smx_slots.specs.Ledger.{Book, is_known, bound_of, is_below}
use Rattle.smx_slots.proofs.Counting.{latest, key_within, forgotten, own_bound, entries_after, bound_after, bind_allowed}
use Rattle.smx_slots.proofs.ledger.Ledger.bind.Goals as goal

pub invariant_of-self-2 : goal.invariant_of-self-2
invariant_of-self-2 c =
    let inside = c.self.inside in
    let client = c.args.client in
    let key = c.in-Some.key in
    let accounts = length inside.limits.items in
    let news : reverse c.and-self-inside.result ≡ Bound client key ∷ reverse inside.movements = latest _ _ _ c.and-self-inside.ensures in
    let unknown : is_known client (reverse inside.movements) ≡ false = subst (λ (b : Book). is_known client b.movements ≡ false) (sym c.self.view_is) (sym c.knows.ensures ∙ c.if-knows.false) in
    let at : Some key ≡ slice_get inside.keys.items c.args.account = grind (arith, common_steps) in
    let low : key < accounts = key_within inside.keys.items accounts c.args.account key c.self.invariant.keys at in
    let entry : Entry = record { key = key; here = true; requests = 0 } in
    let sets : (q : ℕ) → entry_at q c.enter.new.self ≡ (if client == q then Some entry else entry_at q inside.clients) = c.in_ok-enter.ensures.ok in
    record {
      clients = rw news (entries_after accounts (reverse inside.movements) (λ q. entry_at q inside.clients) (λ q. entry_at q c.enter.new.self) (Some entry) client c.self.invariant.clients sets (Bound client key) refl (own_bound accounts (reverse inside.movements) client key low (forgotten client (reverse inside.movements) unknown)));
      requests = rw news c.self.invariant.requests;
      bound = rw news (bound_after (reverse inside.movements) inside.bound.items _ key client (grind (arith, c.self.invariant.bound_length, low)) c.self.invariant.bound (grind (arith, common_steps)));
      total = rw news c.self.invariant.total;
      keys = c.self.invariant.keys;
      requests_length = c.self.invariant.requests_length;
      bound_length = grind (arith, common_steps);
    }

pub returns-clause-may : goal.returns-clause-may
returns-clause-may c =
    let inside = c.self.inside in
    let client = c.args.client in
    let key = c.in-Some.key in
    let accounts = length inside.limits.items in
    let unknown : is_known client (reverse inside.movements) ≡ false = subst (λ (b : Book). is_known client b.movements ≡ false) (sym c.self.view_is) (sym c.knows.ensures ∙ c.if-knows.false) in
    let at : Some key ≡ slice_get inside.keys.items c.args.account = grind (arith, common_steps) in
    let low : key < accounts = key_within inside.keys.items accounts c.args.account key c.self.invariant.keys at in
    let goes_on : inside.draining ≡ false = grind (arith, common_steps) in
    let read : c.index.result.now ≡ get_or inside.limits.items key c.index.result.now = grind (arith, common_steps) in
    let limits : slice_get inside.limits.items key ≡ Some c.index.result.now = slice_get_read inside.limits.items accounts key c.index.result.now refl low read in
    let counted : get_or inside.bound.items key 0 ≡ bound_of key (reverse inside.movements) = c.self.invariant.bound key in
    let below : is_below c.index.result.now.binds (get_or inside.bound.items key 0) ≡ true = grind (arith, common_steps) in
    rw (← c.self.view_is, ← at) (sym (bind_allowed client key c.index.result.now (book_of inside) limits goes_on unknown (rw (← counted) below)))

pub returns-clause-bound : goal.returns-clause-bound
returns-clause-bound c =
    let known : slice_get c.self.inside.keys.items c.args.account ≡ Some c.in-Some.key = grind (arith, common_steps) in
    let news : reverse c.and-self-inside.result ≡ Bound c.args.client c.in-Some.key ∷ reverse c.self.inside.movements = latest _ _ _ c.and-self-inside.ensures in
    rw (← c.self.view_is, known, news) refl
