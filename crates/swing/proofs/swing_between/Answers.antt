-- `swing_between` meets its contract: the steps of specs/Between, one for each call.
use Rattle.std.specs.Prelude.{refl}
use Rattle.std.proofs.Common.{rules}
use Rattle.image.specs.Prelude.{◌∙◌, arith}
use Rattle.swing.specs.Between.{store-size, low-levels, some-levels, enough-free, cuts_asked, range-taken, root-asked, swung-done}
use Rattle.swing.proofs.swing_between.Goals as goal

pub read_levels-h-requires : goal.read_levels-h-requires
read_levels-h-requires c = omega (arith, (store-size _ _ _ _ _ c.requires).0)

pub read_live-live-requires : goal.read_live-live-requires
read_live-live-requires c = omega (arith, (store-size _ _ _ _ _ c.requires).0)

pub bounds-free-h : goal.bounds-free-h
bounds-free-h c = omega (arith, enough-free _ _ _ _ _ c.requires _ c.read_levels-h.ensures.0)

pub low_place-place-requires : goal.low_place-place-requires
low_place-place-requires c = omega (arith, low-levels _ _ _ _ _ c.requires _ c.read_levels-h.ensures.0)

pub cut_both-cuts-requires : goal.cut_both-cuts-requires
cut_both-cuts-requires c = (cuts_asked _ _ _ _ _ c.requires _ c.read_levels-h.ensures.0, search rules, search rules)

pub take_range-requires : goal.take_range-requires
take_range-requires c = range-taken _ _ _ _ _ c.requires _ c.read_levels-h.ensures.0 _ _ _ _ c.cut_both-cuts.ensures

pub half_at-lower-requires : goal.half_at-lower-requires
half_at-lower-requires c = let l = low-levels _ _ _ _ _ c.requires _ c.read_levels-h.ensures.0 in
    let m = some-levels _ _ _ _ _ c.requires _ c.read_levels-h.ensures.0 in
    let e = enough-free _ _ _ _ _ c.requires _ c.read_levels-h.ensures.0 in
    let a = c.low_place-place.ensures.1 in
    let b = c.low_place-place.ensures.2 in
    (omega arith, omega arith, omega arith, omega arith)

pub half_at-higher-requires : goal.half_at-higher-requires
half_at-higher-requires c = let l = low-levels _ _ _ _ _ c.requires _ c.read_levels-h.ensures.0 in
    let m = some-levels _ _ _ _ _ c.requires _ c.read_levels-h.ensures.0 in
    let e = enough-free _ _ _ _ _ c.requires _ c.read_levels-h.ensures.0 in
    let a = c.low_place-place.ensures.1 in
    let b = c.low_place-place.ensures.2 in
    (omega arith, omega arith, omega arith, omega arith)

pub write_root-requires : goal.write_root-requires
write_root-requires c = root-asked _ _ _ _ _ c.requires _ c.read_levels-h.ensures.0 _ _ _ _ c.cut_both-cuts.ensures _ c.take_range.ensures _ c.low_place-place.ensures.0 _ _ c.half_at-lower.ensures c.half_at-higher.ensures

pub write_header-requires : goal.write_header-requires
write_header-requires c = let z = store-size _ _ _ _ _ c.requires in
    let l = low-levels _ _ _ _ _ c.requires _ c.read_levels-h.ensures.0 in
    let k = c.write_root.auto.store ∙ c.take_range.auto.store ∙ c.cut_both-cuts.auto.store in
    (omega arith, omega arith, search rules, omega arith, c.read_live-live.ensures.1)

pub returns : goal.returns
returns c = swung-done _ _ _ _ _ c.requires _ c.read_levels-h.ensures.0 _ _ _ _ c.cut_both-cuts.ensures _ c.take_range.ensures _ c.low_place-place.ensures.0 _ _ c.half_at-lower.ensures c.half_at-higher.ensures _ _ _ _ c.write_root.ensures refl c.read_live-live.ensures.0 c.write_header.ensures
