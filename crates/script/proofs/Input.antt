-- The input byte by byte: what each byte prints and leaves, and the theorem that a whole input prints what the definition of the program says
-- and leaves the store that it says. Relies on: Answered (what a line says).
-- The laws of specs/Input that rest on a definition which a must-fail edit changes.
use Rattle.std.specs.Prelude.{ℕ, ◌≡◌, refl, List, [], take}
use Rattle.image.specs.Prelude.{ap, ◌∙◌}
use Rattle.image.specs.Sound.{table_of}
use Rattle.image.specs.Contract.{Made}
use Rattle.image.specs.Program.{lines_from, lines_of, printed_from, table_from, printed_for}
use Rattle.script.specs.Input.{Ended, Printed, Prints, byte-before, ends, last_table, last_text, more, same-last, same_left}

-- a run in which the line has begun with the bytes q, of which 256 are kept
lines_end : {s p input printed s' : List ℕ} → Prints s p input printed s' → (q : List ℕ) → p ≡ take 256 q → Ended s (lines_from q input) printed s'
unfolding lines_from
lines_end (ends {s} f) q e =
    record {
      text = f.text ∙ ap (λ p. last_text p (table_of s)) e ∙ same-last q (table_of s);
      table = f.table ∙ ap (λ p. last_table p (table_of s)) e ∙ same_left q (table_of s);
      still_sound = f.still_sound;
      size = f.size;
    }
lines_end (more {input = input} f r) q e = byte-before f q input e (λ p d. lines_end r p d)

pub program-prints : {s input printed s' : List ℕ} → Prints s [] input printed s' → Printed s input printed s'
unfolding printed_from table_from lines_of
program-prints r =
    let l = lines_end r [] refl in
    record { text = l.text; table = l.table; still_sound = l.still_sound; size = l.size }

-- Document 01's program is the case of a store just made.
pub made-prints : {s input printed s' : List ℕ} → Made s → Prints s [] input printed s' → printed ≡ printed_for input
unfolding printed_for
made-prints {input = input} m r = (program-prints r).text ∙ ap (λ t. printed_from t input) m.empty
