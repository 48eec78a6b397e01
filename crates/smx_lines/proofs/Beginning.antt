-- The lanes are made.
use Rattle.std.proofs.Common.{◌≡◌, ◌+◌, ℕ, Bool, true, false, cond, List, [], ◌∷◌, ◌++◌, sym, ◌∙◌, ap, subst}
use Rattle.std.specs.Prelude.{replicate}
use Rattle.std.specs.List.{AllZip}
use Rattle.std.proofs.lemmas.List.{replicate_more}
use Rattle.smx_history.specs.Contents.{AgreesWith}
use Rattle.smx_lines.specs.declared.state.State.{State}
use Rattle.smx_lines.specs.declared.state.LinkedLane.{LinkedLane}
use Rattle.smx_lines.specs.Links.{bound_centre}
use Rattle.smx_lines.specs.Relay.{Relay, RelayLane, begin_lanes, new_lane}
use Rattle.smx_lines.specs.Lanes.{IsLane, lasts}
use Rattle.smx_lines.specs.States.{StandsFor}
use Rattle.smx_lines.proofs.Lanes.{zip-push}

-- the settings stand, and so many lanes are made
pub record IsBeginning (s : Relay) (state : State) (n : ℕ) : Type 0 where
  pub limits : state.limits ≡ s.limits
  pub count : state.count ≡ s.count
  pub started : state.started ≡ true
  pub moment : state.moment ≡ s.moment
  pub clients : state.clients.list.items ≡ s.clients
  pub lanes : AllZip (IsLane s.limits (lasts s.clients)) (replicate n new_lane) state.lanes.items
  pub accounts : state.accounts.items ≡ s.accounts
  pub places : state.places ≡ s.places
  pub routes : state.routes ≡ s.routes

abbrev pub Beginning : State → State → ℕ → Type 0
Beginning old state n = (s : Relay) → StandsFor old s → s.started ≡ false → IsBeginning s state n

none_made : (R : RelayLane → LinkedLane → Type 0) (ls : List RelayLane) (lanes : List LinkedLane) → ls ≡ [] → AllZip R ls lanes → AllZip R [] lanes
none_made R ls lanes e z = subst (λ xs. AllZip R xs lanes) e z

pub beginning_start : (old new : State) → new.limits ≡ old.limits → new.count ≡ old.count → new.started ≡ true → new.clients.list.items ≡ old.clients.list.items → new.lanes.items ≡ old.lanes.items
    → new.accounts.items ≡ old.accounts.items → new.places ≡ old.places → new.routes ≡ old.routes → new.moment ≡ old.moment → Beginning old new 0
beginning_start old new limits count started clients lanes accounts places routes moment s a un = record {
  moment = moment ∙ a.moment;
  places = places ∙ a.routes.places_are;
  routes = routes ∙ a.routes.routes_are;
  accounts = accounts ∙ a.routes.accounts_are;
  limits = limits ∙ a.limits;
  count = count ∙ a.count;
  started = started;
  clients = clients ∙ a.clients;
  lanes = rw lanes (none_made (IsLane s.limits (lasts s.clients)) s.lanes old.lanes.items (a.none_yet un) a.lanes);
}

pub beginning_more : (old v new : State) (n : ℕ) (k : LinkedLane) → Beginning old v n → k.lane.limits ≡ v.limits → AgreesWith [] k.lane → k.link ≡ bound_centre → new.limits ≡ v.limits → new.count ≡ v.count → new.started ≡ v.started → new.clients.list.items ≡ v.clients.list.items → new.lanes.items ≡ v.lanes.items ++ k ∷ []
    → new.accounts.items ≡ v.accounts.items → new.places ≡ v.places → new.routes ≡ v.routes → new.moment ≡ v.moment → Beginning old new (n + 1)
beginning_more old v new n k b is agrees bound limits count started clients lanes accounts places routes moment s a un =
    let x = b s a un in
    record {
      moment = moment ∙ x.moment;
      places = places ∙ x.places;
      routes = routes ∙ x.routes;
      accounts = accounts ∙ x.accounts;
      limits = limits ∙ x.limits;
      count = count ∙ x.count;
      started = started ∙ x.started;
      clients = clients ∙ x.clients;
      lanes = rw (lanes, ← replicate_more {X = RelayLane} n new_lane) (zip-push (IsLane s.limits (lasts s.clients)) (replicate n new_lane) v.lanes.items new_lane k x.lanes (record { on = record { agrees = agrees; limits_are = is ∙ x.limits; own = tt }; link_is = bound }));
    }

pub beginning_end : (old new : State) (n : ℕ) → Beginning old new n → n ≡ old.count → old.started ≡ false → (s : Relay) → StandsFor old s → StandsFor new (begin_lanes s)
beginning_end old new n b all un s a =
    let off : s.started ≡ false = sym a.started ∙ un in
    let x = b s a off in
    let whole : AllZip (IsLane s.limits (lasts s.clients)) (replicate s.count new_lane) new.lanes.items = subst (λ m. AllZip (IsLane s.limits (lasts s.clients)) (replicate m new_lane) new.lanes.items) (all ∙ a.count) x.lanes in
    rw off (record {
      limits = x.limits;
      count = x.count;
      started = x.started;
      moment = x.moment;
      clients = x.clients;
      lanes = whole;
      none_yet = λ e. absurd (let z : true ≡ false = e in cc);
      routes = record { accounts_are = x.accounts; places_are = x.places; routes_are = x.routes; known = a.routes.known };
    })

-- lanes that were made stay
pub begun_on : (s : Relay) → s.started ≡ true → begin_lanes s ≡ s
begun_on s e = ap (λ (b : Bool). cond b s (record s { started = true; lanes = replicate s.count new_lane })) e

pub already : (old : State) → old.started ≡ true → (s : Relay) → StandsFor old s → StandsFor old (begin_lanes s)
already old on s a = subst (StandsFor old) (sym (begun_on s (sym a.started ∙ on))) a
