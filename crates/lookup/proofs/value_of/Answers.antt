-- `value_of` meets its contract. Relies on specs/Root.
use Rattle.lookup.specs.Root.{long-enough, root-usable, root-answers}
use Rattle.image.specs.Prelude.{◌∙◌, arith}
use Rattle.lookup.proofs.value_of.Goals as goal

pub read_root-root-requires : goal.read_root-root-requires
read_root-root-requires c = let l = long-enough c.args.store.now c.requires in omega arith

pub read_levels-levels-requires : goal.read_levels-levels-requires
read_levels-levels-requires c = let l = long-enough c.args.store.now c.requires in omega arith

pub lookup-requires : goal.lookup-requires
lookup-requires c = root-usable c.args.store.now _ _ c.requires c.read_root-root.ensures.0 c.read_levels-levels.ensures.0

pub returns : goal.returns
returns c = c.lookup.ensures ∙ root-answers c.args.store.now _ _ _ c.requires c.read_root-root.ensures.0 c.read_levels-levels.ensures.0
