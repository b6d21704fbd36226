-- `apply_move` meets its contract: made ready, swung, finished. Relies on specs/Apply.
use Rattle.std.proofs.Common.{rules}
use Rattle.rename.specs.Apply.{numbers-end, swing-asked, finish-asked, applied}
use Rattle.image.specs.Prelude.{sym, length-take-le}
use Rattle.rename.proofs.apply_move.Goals as goal

pub slice_bounds-swing-end : goal.slice_bounds-swing-end
slice_bounds-swing-end c = sym (length-take-le _ _ (numbers-end _ _ _ _ _ _ c.requires _ _ _ _ c.make_ready-count.ensures (search rules)))

pub swing-requires : goal.swing-requires
swing-requires c = swing-asked _ _ _ _ _ _ c.requires _ _ _ _ c.make_ready-count.ensures (search rules)

pub finish-requires : goal.finish-requires
finish-requires c = finish-asked _ _ _ _ _ _ c.requires _ _ _ _ c.make_ready-count.ensures (search rules) _ c.swing.ensures.exact

pub returns : goal.returns
returns c = applied _ _ _ _ _ _ c.requires _ _ _ _ c.make_ready-count.ensures (search rules) _ c.swing.ensures.exact _ _ c.finish.ensures
