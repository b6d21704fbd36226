-- The input byte by byte: what each byte prints and leaves, and the theorem that a whole input prints what the definition of the program says
-- and leaves the store that it says. Relies on: Answered (what a line says).
use Rattle.std.specs.Prelude.{ℕ, zero, suc, ◌+◌, ◌-◌, ◌<◌, ◌≤◌, ◌≡◌, refl, List, [], ◌∷◌, ◌++◌, Bool, true, false, cond, ◌⊎◌, length, take, drop, set, ltb, eqb}
use Rattle.image.specs.Prelude.{sym, ap, ap₂, ◌∙◌, append-nil, inl, inr, arith, length-append, take_all, take-append-le, take_at, length-take-le, eq-eqb, ne_eqb, ltb-true, ltb-false}
use Rattle.image.specs.Table.{Row}
use Rattle.image.specs.Image.{whole_nodes, nodes_of}
use Rattle.image.specs.Sound.{sound, table_of}
use Rattle.image.specs.Calls.{first_no}
use Rattle.image.specs.Contract.{MakeMeets, make_no}
use Rattle.image.specs.Program.{line_feed, last_line, lines_from, command_of, command_text, command_table, said, after_line, said_on, after_lines, program_nodes, printed_from, table_from}
use Rattle.script.specs.Writing.{set_next}
use Rattle.script.specs.Answered.{Held, Says}
use Rattle.script.specs.Line.{line-long}
use Rattle.octets.specs.Put.{front-is}

-- ONE BYTE
-- with the bytes p of the line so far: the text that the byte b prints, the table after it, and the bytes of the line after it
unfoldable pub step_text : List ℕ → ℕ → List Row → List ℕ
step_text p b t = cond (eqb b line_feed) (said program_nodes p t) []

unfoldable pub step_table : List ℕ → ℕ → List Row → List Row
step_table p b t = cond (eqb b line_feed) (after_line program_nodes p t) t

unfoldable pub step_line : List ℕ → ℕ → List ℕ
step_line p b = cond (eqb b line_feed) [] (take 256 (p ++ (b ∷ [])))

-- at the end of the input
unfoldable pub last_text : List ℕ → List Row → List ℕ
last_text [] t = []
last_text (a ∷ p) t = said program_nodes (a ∷ p) t

unfoldable pub last_table : List ℕ → List Row → List Row
last_table [] t = t
last_table (a ∷ p) t = after_line program_nodes (a ∷ p) t

-- The contract of feed. Left free: the bytes behind the text and behind the line.
pub record Feeds (s line : List ℕ) (len byte len' count : ℕ) (line' out' s' : List ℕ) : Type 0 where
  pub text : take count out' ≡ step_text (take len line) byte (table_of s)
  pub fits : count ≤ length out'
  pub begun : take len' line' ≡ step_line (take len line) byte
  pub room : len' ≤ 256
  pub table : table_of s' ≡ step_table (take len line) byte (table_of s)
  pub still_sound : sound s' ≡ true
  pub size : length s' ≡ length s

-- and of finish
pub record Finishes (s line : List ℕ) (len count : ℕ) (out' s' : List ℕ) : Type 0 where
  pub text : take count out' ≡ last_text (take len line) (table_of s)
  pub fits : count ≤ length out'
  pub table : table_of s' ≡ last_table (take len line) (table_of s)
  pub still_sound : sound s' ≡ true
  pub size : length s' ≡ length s

module _ (s out line : List ℕ) (len byte : ℕ) (h : Held s out) where
  pub fed-line : byte ≡ 10 → (count : ℕ) (out' s' : List ℕ) → Says s (take (len - 0) (drop 0 line)) count out' s' → Feeds s line len byte 0 count line out' s'
  unfolding step_text step_table step_line
  fed-line e count out' s' a =
      let z : eqb byte line_feed ≡ true = eq-eqb byte 10 e in
      record {
        text = a.text ∙ ap (λ p. said program_nodes p (table_of s)) (front-is len line) ∙ rw z refl;
        fits = a.fits;
        begun = rw z refl;
        room = omega arith;
        table = a.table ∙ ap (λ p. after_line program_nodes p (table_of s)) (front-is len line) ∙ rw z refl;
        still_sound = a.still_sound;
        size = a.size;
      }

  module _ (other : byte ≡ 10 → ⊥) where
    no-feed : eqb byte line_feed ≡ false
    no-feed = ne_eqb byte 10 other

    pub fed-kept : len < 256 → 256 ≤ length line → Feeds s line len byte (len + 1) 0 (set line len byte) out s
    unfolding step_text step_table step_line
    fed-kept l m =
        let a = length-append (take len line) (byte ∷ []) in
        let b = length-take-le len line (omega arith) in
        let more : take (len + 1) (set line len byte) ≡ take len line ++ (byte ∷ []) = set_next line len byte (omega arith) in
        let all : take 256 (take len line ++ (byte ∷ [])) ≡ take len line ++ (byte ∷ []) = take_all 256 (take len line ++ (byte ∷ [])) (omega arith) in
        record {
          text = rw no-feed refl;
          fits = omega arith;
          begun = more ∙ sym all ∙ rw no-feed refl;
          room = omega arith;
          table = rw no-feed refl;
          still_sound = h.is_sound;
          size = refl;
        }

    pub fed-lost : len ≤ 256 → 256 ≤ len → 256 ≤ length line → Feeds s line len byte len 0 line out s
    unfolding step_text step_table step_line
    fed-lost l k m =
        let a = length-take-le len line (omega arith) in
        let same : take 256 (take len line ++ (byte ∷ [])) ≡ take len line = take_at (take len line) (byte ∷ []) 256 (omega arith) in
        record {
          text = rw no-feed refl;
          fits = omega arith;
          begun = sym same ∙ rw no-feed refl;
          room = l;
          table = rw no-feed refl;
          still_sound = h.is_sound;
          size = refl;
        }

-- the ways out of finish
pub nothing_left : (s line : List ℕ) (len : ℕ) (out : List ℕ) → Held s out → len ≡ 0 → Finishes s line len 0 out s
unfolding last_text last_table
nothing_left s line len out h e =
    record { text = rw e refl; fits = omega arith; table = rw e refl; still_sound = h.is_sound; size = refl }

pub line-left : (s line : List ℕ) (len count : ℕ) (out' s' : List ℕ) → (len ≡ 0 → ⊥) → 256 ≤ length line → Says s (take (len - 0) (drop 0 line)) count out' s'
    → Finishes s line len count out' s'
line-left s line len count out' s' n m a =
    let z = some-last len line n m in
    record {
      text = a.text ∙ ap (λ p. said program_nodes p (table_of s)) (front-is len line) ∙ sym z.0;
      fits = a.fits;
      table = a.table ∙ ap (λ p. after_line program_nodes p (table_of s)) (front-is len line) ∙ sym z.1;
      still_sound = a.still_sound;
      size = a.size;
    }
  where
    some-last : (len : ℕ) (line : List ℕ) → (len ≡ 0 → ⊥) → 256 ≤ length line
        → (last_text (take len line) (table_of s) ≡ said program_nodes (take len line) (table_of s)) × (last_table (take len line) (table_of s) ≡ after_line program_nodes (take len line) (table_of s))
    some-last zero line n m = absurd (n refl)
    some-last (suc k) [] n m = absurd (omega arith)
    some-last (suc k) (a ∷ l) n m = unfold last_text last_table in (refl, refl)

-- ALL BYTES
short-or-long : (p : List ℕ) → (length p ≤ 256) ⊎ (256 < length p)
short-or-long p = go (ltb 256 (length p)) refl
  where
    go : (x : Bool) → ltb 256 (length p) ≡ x → (length p ≤ 256) ⊎ (256 < length p)
    go true e = inr (ltb-true 256 (length p) e)
    go false e = inl (ltb-false 256 (length p) e)

-- of a line that is too long, the bytes after the 256th say nothing
same-command : (p : List ℕ) → command_of (take 256 p) ≡ command_of p
same-command p = go (short-or-long p)
  where
    go : (length p ≤ 256) ⊎ (256 < length p) → command_of (take 256 p) ≡ command_of p
    go (inl l) = ap command_of (take_all 256 p l)
    go (inr l) =
        let n : length (take 256 p) ≡ 256 = length-take-le 256 p (omega arith) in
        line-long (take 256 p) (omega arith) ∙ sym (line-long p (omega arith))

same-said : (p : List ℕ) (t : List Row) → said program_nodes (take 256 p) t ≡ said program_nodes p t
unfolding said
same-said p t = ap (λ c. command_text program_nodes c t) (same-command p)

same_after : (p : List ℕ) (t : List Row) → after_line program_nodes (take 256 p) t ≡ after_line program_nodes p t
unfolding after_line
same_after p t = ap (λ c. command_table program_nodes c t) (same-command p)

same_step : (p : List ℕ) (b : ℕ) → take 256 (take 256 p ++ (b ∷ [])) ≡ take 256 (p ++ (b ∷ []))
same_step p b = go (short-or-long p)
  where
    go : (length p ≤ 256) ⊎ (256 < length p) → take 256 (take 256 p ++ (b ∷ [])) ≡ take 256 (p ++ (b ∷ []))
    go (inl l) = ap (λ q. take 256 (q ++ (b ∷ []))) (take_all 256 p l)
    go (inr l) =
        let n : length (take 256 p) ≡ 256 = length-take-le 256 p (omega arith) in
        take_at (take 256 p) (b ∷ []) 256 n ∙ sym (take-append-le 256 p (b ∷ []) (omega arith))

pub same-last : (p : List ℕ) (t : List Row) → last_text (take 256 p) t ≡ said_on program_nodes (last_line p) t
unfolding last_text said_on last_line
same-last [] t = refl
same-last (a ∷ p) t = same-said (a ∷ p) t ∙ sym (append-nil (said program_nodes (a ∷ p) t))

pub same_left : (p : List ℕ) (t : List Row) → last_table (take 256 p) t ≡ after_lines program_nodes (last_line p) t
unfolding last_table after_lines last_line
same_left [] t = refl
same_left (a ∷ p) t = same_after (a ∷ p) t

-- A run: each byte is fed to the store and the line as the last one left them, and at the end of the input comes finish. What is printed is
-- the texts one after another; the last list is the store at the end.
pub data Prints : List ℕ → List ℕ → List ℕ → List ℕ → List ℕ → Type 0 where
  ends : {s line out' s' : List ℕ} {len count : ℕ} → Finishes s line len count out' s' → Prints s (take len line) [] (take count out') s'
  more : {s line line' out' s₁ input printed s' : List ℕ} {len byte len' count : ℕ} → Feeds s line len byte len' count line' out' s₁
      → Prints s₁ (take len' line') input printed s' → Prints s (take len line) (byte ∷ input) (take count out' ++ printed) s'

-- what lines print and leave
pub record Ended (s : List ℕ) (lines : List (List ℕ)) (printed s' : List ℕ) : Type 0 where
  pub text : printed ≡ said_on program_nodes lines (table_of s)
  pub table : table_of s' ≡ after_lines program_nodes lines (table_of s)
  pub still_sound : sound s' ≡ true
  pub size : length s' ≡ length s

-- one byte before an end
module _ {s line line' out' s₁ printed s' : List ℕ} {len byte len' count : ℕ} (f : Feeds s line len byte len' count line' out' s₁)
    (q input : List ℕ) (begun : take len line ≡ take 256 q) (later : (r : List ℕ) → take len' line' ≡ take 256 r → Ended s₁ (lines_from r input) printed s') where
  line-ends : eqb byte line_feed ≡ true → Ended s (q ∷ lines_from [] input) (take count out' ++ printed) s'
  line-ends z =
      let l : Ended s₁ (lines_from [] input) printed s' = later [] (f.begun ∙ unfold step_line in rw z refl) in
      let left : step_table (take len line) byte (table_of s) ≡ after_line program_nodes (take len line) (table_of s) = unfold step_table in rw z refl in
      let t : table_of s₁ ≡ after_line program_nodes q (table_of s)
      = f.table ∙ left ∙ ap (λ p. after_line program_nodes p (table_of s)) begun ∙ same_after q (table_of s) in
      let told : step_text (take len line) byte (table_of s) ≡ said program_nodes (take len line) (table_of s) = unfold step_text in rw z refl in
      let w : take count out' ≡ said program_nodes q (table_of s)
      = f.text ∙ told ∙ ap (λ p. said program_nodes p (table_of s)) begun ∙ same-said q (table_of s) in
      record {
        text = ap₂ (λ a b. a ++ b) w (l.text ∙ ap (said_on program_nodes (lines_from [] input)) t) ∙ unfold said_on in refl;
        table = l.table ∙ ap (after_lines program_nodes (lines_from [] input)) t ∙ unfold after_lines in refl;
        still_sound = l.still_sound;
        size = l.size ∙ f.size;
      }

  line-grows : eqb byte line_feed ≡ false → Ended s (lines_from (q ++ (byte ∷ [])) input) (take count out' ++ printed) s'
  line-grows z =
      let kept : step_line (take len line) byte ≡ take 256 (take len line ++ (byte ∷ [])) = unfold step_line in rw z refl in
      let cut : take len' line' ≡ take 256 (q ++ (byte ∷ []))
      = f.begun ∙ kept ∙ ap (λ p. take 256 (p ++ (byte ∷ []))) begun ∙ same_step q byte in
      let l : Ended s₁ (lines_from (q ++ (byte ∷ [])) input) printed s' = later (q ++ (byte ∷ [])) cut in
      let t : table_of s₁ ≡ table_of s = f.table ∙ unfold step_table in rw z refl in
      let w : take count out' ≡ [] = f.text ∙ unfold step_text in rw z refl in
      record {
        text = ap₂ (λ a b. a ++ b) w (l.text ∙ ap (said_on program_nodes (lines_from (q ++ (byte ∷ [])) input)) t);
        table = l.table ∙ ap (after_lines program_nodes (lines_from (q ++ (byte ∷ [])) input)) t;
        still_sound = l.still_sound;
        size = l.size ∙ f.size;
      }

  pub byte-before : Ended s (cond (eqb byte line_feed) (q ∷ lines_from [] input) (lines_from (q ++ (byte ∷ [])) input)) (take count out' ++ printed) s'
  byte-before = go (eqb byte line_feed) refl
    where
      go : (x : Bool) → eqb byte line_feed ≡ x → Ended s (cond (eqb byte line_feed) (q ∷ lines_from [] input) (lines_from (q ++ (byte ∷ [])) input)) (take count out' ++ printed) s'
      go true z = rw z (line-ends z)
      go false z = rw z (line-grows z)

-- The outcome of a run from any store that feed and finish take, which is any sound one of 64 nodes: what it prints follows from the table at
-- the start and the input, and so does the table at the end, which a sound store of the same size means.
pub record Printed (s input printed s' : List ℕ) : Type 0 where
  pub text : printed ≡ printed_from (table_of s) input
  pub table : table_of s' ≡ table_from (table_of s) input
  pub still_sound : sound s' ≡ true
  pub size : length s' ≡ length s

-- what make leaves of the program's store
pub made-sound : (s : List ℕ) (k : ℕ) (s' : List ℕ) → MakeMeets s k s' → length s ≡ 65536 → sound s' ≡ true
made-sound s k s' m n = (m.leaves (ap make_no n ∙ accepted)).is_sound
  where
    accepted : make_no 65536 ≡ 0
    accepted = unfold make_no first_no whole_nodes nodes_of in refl
