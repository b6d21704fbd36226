-- `lookup` meets its contract. The level falls from a node to its child. Relies on specs/Look.
use Rattle.lookup.specs.Look.{node-inside, look-leaf, look-said, look-nobody, owner-usable, owner-short, look-owner}
use Rattle.std.specs.Prelude.{refl}
use Rattle.image.specs.Prelude.{arith}
use Rattle.lookup.proofs.+lookup.Goals as goal

pub of_node-entries-requires : goal.of_node-entries-requires
of_node-entries-requires t c = (node-inside c.args.store.now c.args.num c.args.level c.requires).0

pub returns-then-level-le1 : goal.returns-then-level-le1
returns-then-level-le1 t c = look-leaf _ _ _ c.requires _ _ _ c.of_node-entries.ensures.lists (omega arith) _ c.find.ensures

pub returns-in-Some : goal.returns-in-Some
returns-in-Some t c = look-said _ _ _ c.requires _ _ _ c.of_node-entries.ensures.lists (omega arith) _ c.in-Some.ensures

pub returns-in_err-owner : goal.returns-in_err-owner
returns-in_err-owner t c =
    rw c.from_residual.ensures
    (look-nobody _ _ _ c.requires _ _ _ c.of_node-entries.ensures.lists (omega arith) _ _ c.among.ensures.pending c.among.ensures.high _ c.in_err-owner.ensures c.in_default.ensures refl)

pub slice_bounds-lookup-count-2 : goal.slice_bounds-lookup-count-2
slice_bounds-lookup-count-2 t c =
    let s = owner-short _ _ _ c.requires _ _ _ c.of_node-entries.ensures.lists (omega arith) _ _ c.among.ensures.pending c.among.ensures.high _ c.in_ok-owner.ensures _ refl _ c.common_length-k.ensures.0 in
    omega arith

pub slice_bounds-lookup-start-2 : goal.slice_bounds-lookup-start-2
slice_bounds-lookup-start-2 t c =
    let s = owner-short _ _ _ c.requires _ _ _ c.of_node-entries.ensures.lists (omega arith) _ _ c.among.ensures.pending c.among.ensures.high _ c.in_ok-owner.ensures _ refl _ c.common_length-k.ensures.0 in
    omega arith

pub lookup-requires : goal.lookup-requires
lookup-requires t c = (omega arith, owner-usable _ _ _ c.requires _ _ _ c.of_node-entries.ensures.lists (omega arith) _ _ c.among.ensures.pending c.among.ensures.high _ c.in_ok-owner.ensures _ refl)

pub returns : goal.returns
returns t c = look-owner _ _ _ c.requires _ _ _ c.of_node-entries.ensures.lists (omega arith) _ _ c.among.ensures.pending c.among.ensures.high _ c.in_ok-owner.ensures _ refl _ c.common_length-k.ensures.0 c.in_default.ensures _ c.lookup.ensures
