-- `write_entry` meets its contract, kind by kind. Relies on specs/Writer.
use Rattle.image.specs.Prelude.{arith, sym, ap, ◌∙◌}
use Rattle.std.specs.Prelude.{length}
use Rattle.octets.specs.Put.{put}
use Rattle.node.specs.Writer.{pairing, pairing-takes, pointing, pointing-takes, pointing-small, telling}
use Rattle.node.proofs.writer.write_entry.Goals as goal

pub write_keyed-requires : goal.write_keyed-requires
write_keyed-requires c = let l = pairing-takes _ _ _ c.in-Pair.is in (omega arith, omega arith, omega arith, omega arith)

pub write_child-requires : goal.write_child-requires
write_child-requires c = let l = pointing-takes _ _ _ c.in-Child.is in (omega arith, omega arith, omega arith, pointing-small _ _ _ c.in-Child.is c.requires.3)

pub write_message-requires : goal.write_message-requires
write_message-requires c = let l = ap length (telling _ _ c.in-Message.is) in (omega arith, omega arith, omega arith)

pub returns-in-Pair : goal.returns-in-Pair
returns-in-Pair c = let l = pairing-takes _ _ _ c.in-Pair.is in
    let r = c.write_keyed.ensures.1 in
    (c.write_keyed.ensures.0 ∙ ap (put c.args.page.now c.args.at) (sym (pairing _ _ _ c.in-Pair.is)), omega arith)

pub returns-in-Child : goal.returns-in-Child
returns-in-Child c = let l = pointing-takes _ _ _ c.in-Child.is in
    let r = c.write_child.ensures.1 in
    (c.write_child.ensures.0 ∙ ap (put c.args.page.now c.args.at) (sym (pointing _ _ _ c.in-Child.is)), omega arith)

pub returns-in-Message : goal.returns-in-Message
returns-in-Message c = let l = ap length (telling _ _ c.in-Message.is) in
    let r = c.write_message.ensures.1 in
    (c.write_message.ensures.0 ∙ ap (put c.args.page.now c.args.at) (sym (telling _ _ c.in-Message.is)), omega arith)
