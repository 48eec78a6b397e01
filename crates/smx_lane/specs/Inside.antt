-- What the fields of a lane show, and what they keep. No clause of a public function cites these.
use Rattle.std.specs.Prelude.{◌≡◌, ◌≤◌, vec_capacity}
use Rattle.smx_lane.specs.declared.lane.Lane.TheInside.{Inside}
use Rattle.smx_history.specs.Contents.{Content}
use Rattle.smx_history.proofs.Room.{KeepsRoom}

abbrev pub content_of : Inside → Content
content_of a = record {
  limits = a.limits;
  queue = a.queue.items;
  window = a.window.taken;
  members = a.roster.members;
  greatest = a.greatest;
  up = a.up;
  generations = a.window.generations;
  latest = a.window.latest;
  entries = a.entries.items;
}

pub record KeepsLimits (a : Inside) : Type 0 where
  pub room : KeepsRoom (content_of a)
  pub queue : a.queue.capacity ≡ a.limits.queue
  pub window : a.window.most ≡ a.limits.window
  pub entries : a.limits.history ≤ vec_capacity a.entries
  pub places : a.roster.places ≡ a.limits.client
