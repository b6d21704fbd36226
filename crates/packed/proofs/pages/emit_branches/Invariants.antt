-- The loop of `emit_branches`: the rows so far are written as children, each behind the one before it.
-- Relies on specs/Pages/Emitting and specs/Pages/Entries.
use Rattle.packed.specs.Pages.Emitting.{Emits}
use Rattle.packed.specs.Pages.Entries.{branch_bytes}
use Rattle.packed.proofs.pages.emit_branches.Given as goal

abbrev pub invariant-loop-t : goal.invariant-loop-t
invariant-loop-t l = Emits (λ n i. branch_bytes l.k n l.area i) l.initial.page l.from l.to l.at l.page l.t l.p
