-- `emit_branch` meets its contract. Relies on specs/Pages/Entries.
use Rattle.std.specs.Prelude.{length, drop}
use Rattle.image.specs.Prelude.{sym, ap, ap₂, ◌∙◌, arith}
use Rattle.image.specs.Entry.{child}
use Rattle.laws.specs.Encode.{bytes_of, child-size}
use Rattle.octets.specs.Put.{put, put-nil}
use Rattle.packed.specs.Pages.Entries.{bytes-none, bytes-some}
use Rattle.packed.proofs.pages.emit_branch.Goals as goal

pub returns-then-num-eq0 : goal.returns-then-num-eq0
returns-then-num-eq0 c = let d = bytes-none c.args.k c.args.area.now c.args.t (omega arith) in
    (sym (put-nil c.args.page.now c.args.at) ∙ ap (put c.args.page.now c.args.at) (sym d), (let q = ap length d in omega arith))

pub write_child-requires : goal.write_child-requires
write_child-requires c =
    let q = ap length (c.without_first.ensures ∙ ap (drop c.args.k) c.low_pivot-pivot.ensures.0) in
    let d = ap length (bytes-some c.args.k c.args.area.now c.args.t (λ z. omega arith)) ∙ child-size _ _ in
    (omega arith, omega arith, omega arith, omega arith)

pub returns : goal.returns
returns c =
    let p = c.without_first.ensures ∙ ap (drop c.args.k) c.low_pivot-pivot.ensures.0 in
    let some_bytes = bytes-some c.args.k c.args.area.now c.args.t (λ z. omega arith) in
    let q = ap length p in
    let d = ap length some_bytes ∙ child-size _ _ in (
      c.write_child.ensures.0
          ∙ ap (put c.args.page.now c.args.at) (ap₂ (λ n s. bytes_of (child n s)) c.mark_at-num.ensures.0 p ∙ sym some_bytes),
      omega arith,
    )
