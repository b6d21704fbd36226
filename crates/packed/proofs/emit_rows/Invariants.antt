-- The loop of `emit_rows`: the rows so far are written, each behind the one before it. Relies on
-- specs/Pages/Emitting and specs/Build/Pairs.
use Rattle.packed.specs.Pages.Emitting.{Emits}
use Rattle.packed.specs.Build.Pairs.{pair_bytes}
use Rattle.packed.proofs.emit_rows.Given as goal

abbrev pub invariant-loop-t : goal.invariant-loop-t
invariant-loop-t l = Emits (λ n i. pair_bytes l.k n l.area i) l.initial.page l.from l.to l.at l.page l.t l.p
