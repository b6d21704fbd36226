-- `emit_row` meets its contract.
-- Relies on specs/Build/PairLaws.
use Rattle.std.specs.Prelude.{length, drop}
use Rattle.image.specs.Prelude.{arith, sym, ap, ap₂, ◌∙◌}
use Rattle.image.specs.Entry.{pair}
use Rattle.octets.specs.Put.{put}
use Rattle.laws.specs.Encode.{bytes_of, pair_size, pair-entry}
use Rattle.packed.specs.Build.PairLaws.{pair_one}
use Rattle.packed.proofs.emit_row.Goals as goal

pub write_keyed-requires : goal.write_keyed-requires
write_keyed-requires c =
    let x = ap length (c.without_first-path.ensures ∙ ap (drop c.args.k) c.row_at-row.ensures.path_is) in
    let y = ap length c.row_at-row.ensures.value_is in
    let d = ap length (pair_one c.args.k c.args.area.now c.args.t) ∙ pair_size _ _ in
    (omega arith, omega arith, omega arith, omega arith)

pub returns : goal.returns
returns c =
    let p = c.without_first-path.ensures ∙ ap (drop c.args.k) c.row_at-row.ensures.path_is in
    let v = c.row_at-row.ensures.value_is in
    let x = ap length p in
    let y = ap length v in
    let one = pair_one c.args.k c.args.area.now c.args.t in
    let d = ap length one ∙ pair_size _ _ in (
      c.write_keyed.ensures.0
          ∙ ap (put c.args.page.now c.args.at) (sym (pair-entry _ _) ∙ ap₂ (λ s w. bytes_of (pair s w)) p v ∙ sym one),
      omega arith,
    )
