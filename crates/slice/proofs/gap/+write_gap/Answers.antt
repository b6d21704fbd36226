-- `write_gap` meets its contract. The level falls down the chain. Relies on specs/GapSteps.
use Rattle.std.proofs.Common.{rules}
use Rattle.std.specs.Prelude.{refl, length, get_or, ◌++◌, ◌+◌}
use Rattle.image.specs.Prelude.{ap, ◌∙◌, arith}
use Rattle.image.specs.Entry.{child}
use Rattle.laws.specs.Encode.{bytes_of}
use Rattle.lookup.specs.Look.{part-rest}
use Rattle.slice.specs.GapSteps.{gap-new, gap-leaf, gap-deeper, gap-fits, gap-inner}
use Rattle.slice.proofs.gap.+write_gap.Goals as goal

pub write-requires : goal.write-requires
write-requires t c = (gap-new _ _ _ c.args.hi.now _ _ c.requires _ refl, omega arith, omega arith)

pub returns-then-level-le1 : goal.returns-then-level-le1
returns-then-level-le1 t c = gap-leaf _ _ _ _ _ _ c.requires _ refl _ _ (omega arith) c.new-page.ensures c.write.ensures

pub push-requires : goal.push-requires
push-requires t c =
    let f = gap-fits _ _ _ c.args.hi.now _ _ c.requires _ refl (omega arith) _ c.common_length-d.ensures.0 _ refl in
    let z = ap length c.new-page.ensures in
    let e = ap (λ l. length (bytes_of (child (get_or c.args.free.now (c.args.at + 1) 0) l))) (part-rest c.common_length-d.result c.args.lo.now) in
    (omega arith, search rules)

pub write_gap-requires : goal.write_gap-requires
write_gap-requires t c = (omega arith, gap-deeper _ _ _ c.args.hi.now _ _ c.requires _ refl (omega arith) _ refl)

pub write-requires-2 : goal.write-requires-2
write-requires-2 t c =
    let n = gap-new _ _ _ c.args.hi.now _ _ c.requires _ refl in let g = c.requires.levels in (omega arith, omega arith, omega arith)

pub returns : goal.returns
returns t c =
    gap-inner _ _ _ _ _ _ c.requires _ refl (omega arith) _ c.common_length-d.ensures.0 _ refl _ _ _ _ c.write_gap.ensures c.new-page.ensures
    (c.push.ensures ∙ ap (λ l. c.new-page.result ++ bytes_of (child (get_or c.args.free.now (c.args.at + 1) 0) l)) (part-rest c.common_length-d.result c.args.lo.now))
    c.write-2.ensures
