-- `is_unfit` meets the contract: nothing goes on from the dead shape; else the rest begins in the second part or in the first
-- (specs/Tests).
use Rattle.std.proofs.Common.{rules}
use Rattle.successor.specs.Tests.{unfit-dead, unfit-first, unfit-second}
use Rattle.image.specs.Prelude.{arith}
use Rattle.successor.proofs.seek.Seek.is_unfit.Goals as goal

pub returns-then-is_none : goal.returns-then-is_none
returns-then-is_none c = search (rules, unfit-dead)

pub slice_bounds-goes_on-count : goal.slice_bounds-goes_on-count
slice_bounds-goes_on-count c = omega arith

pub slice_bounds-goes_on-start : goal.slice_bounds-goes_on-start
slice_bounds-goes_on-start c = omega arith

pub returns-then-n-cut : goal.returns-then-n-cut
returns-then-n-cut c = search (rules, unfit-second)

pub returns : goal.returns
returns c = search (rules, unfit-first)
