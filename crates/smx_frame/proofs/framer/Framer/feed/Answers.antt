use Rattle.std.proofs.Common.{◌≡◌, rules, Some, ap, ◌∙◌}
use Rattle.smx_frame.specs.declared.fault.FrameFault.{FrameFault}
use Rattle.smx_frame.specs.declared.fault.FrameFault.TheVariants.{NoMemory}
use Rattle.smx_frame.proofs.Fronts.{no_memory_fault}
use Rattle.smx_frame.proofs.framer.Framer.feed.Goals as goal

pub returns-in-Some-clause-memory : goal.returns-in-Some-clause-memory
returns-in-Some-clause-memory c = λ h. let same : c.in-Some.fault ≡ NoMemory = search rules in absurd (no_memory_fault _ _ (c.self.invariant.failed NoMemory (c.in-Some.is ∙ ap (λ (e : FrameFault). Some e) same)))
