-- `write_message` meets its contract, kind by kind. Relies on specs/Writer.
use Rattle.image.specs.Prelude.{arith, sym, ap, ◌∙◌}
use Rattle.octets.specs.Put.{put}
use Rattle.node.specs.Writer.{putting, putting-takes, dropping, dropping-takes, clearing, clearing-takes}
use Rattle.node.proofs.writer.write_message.Goals as goal

pub write_keyed-requires : goal.write_keyed-requires
write_keyed-requires c = let l = putting-takes _ _ _ c.in-Put.is in (omega arith, omega arith, omega arith, omega arith)

pub write_short-requires : goal.write_short-requires
write_short-requires c = let l = dropping-takes _ _ c.in-Drop.is in (omega arith, omega arith, omega arith, omega arith)

pub write_short-requires-in-Clear : goal.write_short-requires-in-Clear
write_short-requires-in-Clear c = let l = clearing-takes _ _ c.in-Clear.is in (omega arith, omega arith, omega arith, omega arith)

pub returns-in-Put : goal.returns-in-Put
returns-in-Put c = let l = putting-takes _ _ _ c.in-Put.is in
    let r = c.write_keyed.ensures.1 in
    (c.write_keyed.ensures.0 ∙ ap (put c.args.page.now c.args.at) (sym (putting _ _ _ c.in-Put.is)), omega arith)

pub returns-in-Drop : goal.returns-in-Drop
returns-in-Drop c = let l = dropping-takes _ _ c.in-Drop.is in
    let r = c.write_short.ensures.1 in
    (c.write_short.ensures.0 ∙ ap (put c.args.page.now c.args.at) (sym (dropping _ _ c.in-Drop.is)), omega arith)

pub returns-in-Clear : goal.returns-in-Clear
returns-in-Clear c = let l = clearing-takes _ _ c.in-Clear.is in
    let r = c.write_short-in-Clear.ensures.1 in
    (c.write_short-in-Clear.ensures.0 ∙ ap (put c.args.page.now c.args.at) (sym (clearing _ _ c.in-Clear.is)), omega arith)
