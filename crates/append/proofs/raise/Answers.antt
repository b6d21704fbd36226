-- `raise` meets its contract: the page composed is `root_page`, and node 0 then names it.
use Rattle.std.proofs.Common.{rules}
use Rattle.std.specs.Prelude.{refl, [], ◌++◌, length}
use Rattle.image.specs.Prelude.{arith, ap, ◌∙◌}
use Rattle.image.specs.Entry.{child, message}
use Rattle.laws.specs.Encode.{bytes_of, child-size}
use Rattle.laws.specs.WriteNode.{in-store}
use Rattle.append.specs.WriteSteps.{raises, long, small-store, few-levels}
use Rattle.node.specs.Lent.{message_is}
use Rattle.append.proofs.raise.Goals as goal

pub read_root-old-requires : goal.read_root-old-requires
read_root-old-requires c = let l = long c.args.store.now c.requires.1 in omega arith

pub read_levels-levels-requires : goal.read_levels-levels-requires
read_levels-levels-requires c = let l = long c.args.store.now c.requires.1 in omega arith

pub push-requires : goal.push-requires
push-requires c = let e = ap length c.new-page.ensures in
    let z = child-size c.read_root-old.result [] in
    (omega arith, omega arith)

pub push-requires-2 : goal.push-requires-2
push-requires-2 c = let z = child-size c.read_root-old.result [] in
    let p = ap length (c.push.ensures ∙ ap (λ x. x ++ bytes_of (child c.read_root-old.result [])) c.new-page.ensures) in
    (omega arith, tt)

pub write-requires : goal.write-requires
write-requires c = let f = in-store (length c.args.store.now) _ c.requires.2 in
    let q = few-levels _ _ c.requires.1 c.read_levels-levels.ensures.0 in
    (omega arith, omega arith, omega arith)

pub put_u16-requires : goal.put_u16-requires
put_u16-requires c = let w = small-store c.args.store.now c.requires.0 in let f = in-store (length c.args.store.now) _ c.requires.2 in search rules

pub put_u16-requires-2 : goal.put_u16-requires-2
put_u16-requires-2 c = let q = few-levels _ _ c.requires.1 c.read_levels-levels.ensures.0 in let f = in-store (length c.args.store.now) _ c.requires.2 in search rules

pub returns : goal.returns
returns c = raises _ _ _ _ _ _ _ _ _ _ c.requires.3 c.read_root-old.ensures.0 c.read_levels-levels.ensures.0 refl
    (c.push-2.ensures ∙ ap (λ x. x ++ bytes_of (message (message_is c.args.given))) (c.push.ensures ∙ ap (λ x. x ++ bytes_of (child c.read_root-old.result [])) c.new-page.ensures))
    c.write.ensures c.put_u16.ensures c.put_u16-2.ensures
