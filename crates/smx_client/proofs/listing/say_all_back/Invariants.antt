use Rattle.std.proofs.Common.{◌≡◌, ◌≤◌, ◌*◌, ◌++◌, length, map}
use Rattle.smx_shared.specs.declared.fault.SubmitFault.TheVariants as submit
use Rattle.smx_client.specs.Sayings.{Spoke}
use Rattle.smx_client.specs.Private.Lists.{back_out}
use Rattle.smx_client.proofs.listing.say_all_back.Given as goal

abbrev pub invariant-loop-offer : goal.invariant-loop-offer
invariant-loop-offer g l = record {
  left : l.yielded ++ l.offer-iterator.rest.items ≡ l.fn.offers.items;
  room : 16 * length l.offer-iterator.rest.items ≤ l.wire.room;
  spoke : Spoke l.fn.wire l.wire (map (λ o. back_out o submit.Spent) l.yielded);
}
