use Rattle.std.proofs.Common.{◌≡◌, [], ◌∷◌, ◌++◌, refl, sym, ◌∙◌, ap}
use Rattle.std.specs.Ordering.{nat_cmp}
use Rattle.std.specs.BTreeMap.{insert_entry}
use Rattle.smx_history.specs.Prefixes.{RiseAbove}
use Rattle.smx_lane.proofs.ClientPlaces.{clients, KeepsClientRows-same, KeepsClientRows-added, rows-same, rows-added}
use Rattle.smx_lane.proofs.client_rows.ClientRows.push.Goals as goal

pub returns-in-Some-clause-keeps : goal.returns-in-Some-clause-keeps
returns-in-Some-clause-keeps c =
    let m = c.reserve.new.self in
    let same = c.in_ok-reserve.ensures.same in
    let client = c.args.row.client in
    let keeps = KeepsClientRows-same c.args.self.now m c.requires.keeps same in
    let rise : RiseAbove 0 (clients m.keys.entries ++ client ∷ []) = rw same.keys c.requires.above in
    let at = c.insert_reserved.result in
    let place : c.vacant_key-at.result ≡ at = c.vacant_key-at.ensures.value ∙ sym c.insert_reserved.ensures.key in
    let entries = c.in_ok-insert.ensures.entries ∙ ap (insert_entry nat_cmp m.keys.entries client) place in
    KeepsClientRows-added m _ client at c.args.row keeps rise refl c.insert_reserved.ensures.was_vacant entries c.insert_reserved.ensures.updates

pub returns-in-Some-clause-rows : goal.returns-in-Some-clause-rows
returns-in-Some-clause-rows c =
    let m = c.reserve.new.self in
    let same = c.in_ok-reserve.ensures.same in
    let client = c.args.row.client in
    let keeps = KeepsClientRows-same c.args.self.now m c.requires.keeps same in
    let rise : RiseAbove 0 (clients m.keys.entries ++ client ∷ []) = rw same.keys c.requires.above in
    let at = c.insert_reserved.result in
    let place : c.vacant_key-at.result ≡ at = c.vacant_key-at.ensures.value ∙ sym c.insert_reserved.ensures.key in
    let entries = c.in_ok-insert.ensures.entries ∙ ap (insert_entry nat_cmp m.keys.entries client) place in
    rows-added m c.insert_reserved.new.self c.insert.new.self.entries client at c.args.row keeps rise c.insert_reserved.ensures.was_vacant entries c.insert_reserved.ensures.updates
    ∙ ap (λ es. es ++ (client, c.args.row) ∷ []) (rows-same c.args.self.now m same)

pub returns-in_default-clause-keeps : goal.returns-in_default-clause-keeps
returns-in_default-clause-keeps c =
    let m = c.reserve.new.self in
    let same = c.in_ok-reserve.ensures.same in
    let client = c.args.row.client in
    let keeps = KeepsClientRows-same c.args.self.now m c.requires.keeps same in
    let rise : RiseAbove 0 (clients m.keys.entries ++ client ∷ []) = rw same.keys c.requires.above in
    let at = c.insert_reserved.result in
    let place : c.vacant_key-at.result ≡ at = c.vacant_key-at.ensures.value ∙ sym c.insert_reserved.ensures.key in
    let entries = c.in_ok-insert.ensures.entries ∙ ap (insert_entry nat_cmp m.keys.entries client) place in
    KeepsClientRows-added m _ client at c.args.row keeps rise refl c.insert_reserved.ensures.was_vacant entries c.insert_reserved.ensures.updates

pub returns-in_default-clause-rows : goal.returns-in_default-clause-rows
returns-in_default-clause-rows c =
    let m = c.reserve.new.self in
    let same = c.in_ok-reserve.ensures.same in
    let client = c.args.row.client in
    let keeps = KeepsClientRows-same c.args.self.now m c.requires.keeps same in
    let rise : RiseAbove 0 (clients m.keys.entries ++ client ∷ []) = rw same.keys c.requires.above in
    let at = c.insert_reserved.result in
    let place : c.vacant_key-at.result ≡ at = c.vacant_key-at.ensures.value ∙ sym c.insert_reserved.ensures.key in
    let entries = c.in_ok-insert.ensures.entries ∙ ap (insert_entry nat_cmp m.keys.entries client) place in
    rows-added m c.insert_reserved.new.self c.insert.new.self.entries client at c.args.row keeps rise c.insert_reserved.ensures.was_vacant entries c.insert_reserved.ensures.updates
    ∙ ap (λ es. es ++ (client, c.args.row) ∷ []) (rows-same c.args.self.now m same)
