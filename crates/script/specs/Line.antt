-- A line by its fields, as the code takes it apart: the word, then the rest.
use Rattle.std.specs.Prelude.{ℕ, ◌+◌, ◌-◌, ◌<◌, ◌≤◌, ◌≡◌, refl, List, [], ◌∷◌, Bool, true, false, ◌||◌, cond, length, take, drop, eqb}
use Rattle.image.specs.Prelude.{sym, ap, ap₂, ◌∙◌, arith, length-drop, take_all, lt-ltb, le-ltb, ne_eqb}
use Rattle.image.specs.Bytes.{same}
use Rattle.image.specs.Program.{space, fields_of, with_byte, some_empty, Command, bad, word_alone, word_and_path, word_and_two, read_fields, command_of}
use Rattle.script.specs.Find.{up_to, one_field, more-fields}

-- a word with one field behind it, with two, and with what the rest of the line holds
unfoldable pub path_command : List ℕ → List ℕ → Command
path_command w p = cond (eqb (length p) 0) bad (word_and_path w p)

unfoldable pub two_command : List ℕ → List ℕ → List ℕ → Command
two_command w p q = cond (eqb (length p) 0) bad (cond (eqb (length q) 0) bad (word_and_two w p q))

unfoldable pub rest_command : List ℕ → List ℕ → Command
rest_command w rest = cond (some_empty (fields_of rest)) bad (read_fields (w ∷ fields_of rest))

-- THE REST
record Cons (l : List (List ℕ)) : Type 0 where
  first : List ℕ
  later : List (List ℕ)
  is : l ≡ first ∷ later

some-field : (s : List ℕ) → Cons (fields_of s)
unfolding fields_of
some-field [] = record { first = []; later = []; is = refl }
some-field (b ∷ s) = go (eqb b space) (fields_of s)
  where
    go : (x : Bool) (fs : List (List ℕ)) → Cons (cond x ([] ∷ fs) (with_byte b fs))
    go true fs = record { first = []; later = fs; is = refl }
    go false [] = record { first = b ∷ []; later = []; is = unfold with_byte in refl }
    go false (f ∷ fs) = record { first = b ∷ f; later = fs; is = unfold with_byte in refl }

or-false : (b : Bool) → b || false ≡ b
or-false true = refl
or-false false = refl

part_end : (s : List ℕ) (b : ℕ) → take (length s - b) (drop b s) ≡ drop b s
part_end s b = take_all (length s - b) (drop b s) (let n = length-drop b s in omega arith)

part-front : (s : List ℕ) (n : ℕ) → take (n - 0) (drop 0 s) ≡ take n s
part-front s n = let z : n - 0 ≡ n = omega arith in ap (λ k. take k s) z

either-bad : (b : Bool) → bad ≡ cond b bad bad
either-bad true = refl
either-bad false = refl

-- a word with three fields or more behind it
many-bad : (w : List ℕ) (fs : List (List ℕ)) (f g k : List ℕ) (l : List (List ℕ)) → fs ≡ f ∷ g ∷ k ∷ l → bad ≡ cond (some_empty fs) bad (read_fields (w ∷ fs))
unfolding read_fields
many-bad w fs f g k l e = rw e (either-bad (some_empty (f ∷ g ∷ k ∷ l)))

module _ (w rest : List ℕ) (a : ℕ) (a-is : a ≡ up_to space rest) where
  pub rest-path : a ≡ length rest → path_command w rest ≡ rest_command w rest
  unfolding rest_command path_command some_empty read_fields
  rest-path e =
      let f : fields_of rest ≡ rest ∷ [] = one_field rest (sym a-is ∙ e) in
      rw (f, or-false (eqb (length rest) 0)) refl

  module _ (more : a ≡ length rest → ⊥) (within : a ≤ length rest) (b : ℕ) (b-is : b ≡ a + 1) (c : ℕ)
      (c-is : c ≡ up_to space (take (length rest - b) (drop b rest))) where
    fields : fields_of rest ≡ take a rest ∷ fields_of (take (length rest - b) (drop b rest))
    fields =
        let l : up_to space rest < length rest = omega (arith, apart) in
        more-fields rest l
        ∙ ap₂ (λ x y. x ∷ y) (ap (λ k. take k rest) (sym a-is)) (ap (λ k. fields_of (drop (k + 1) rest)) (sym a-is) ∙ ap (λ k. fields_of (drop k rest)) (sym b-is) ∙ ap fields_of (sym (part_end rest b)))
      where
        apart : a < length rest
        apart = omega (arith, more)

    pub rest-many : c < length (take (length rest - b) (drop b rest)) → bad ≡ rest_command w rest
    unfolding rest_command
    rest-many l =
        let second : fields_of (take (length rest - b) (drop b rest))
        ≡ take (up_to space (take (length rest - b) (drop b rest))) (take (length rest - b) (drop b rest))
        ∷ fields_of (drop (up_to space (take (length rest - b) (drop b rest)) + 1) (take (length rest - b) (drop b rest)))
        = more-fields (take (length rest - b) (drop b rest)) (omega arith) in
        let third = some-field (drop (up_to space (take (length rest - b) (drop b rest)) + 1) (take (length rest - b) (drop b rest))) in
        many-bad w (fields_of rest) (take a rest) (take (up_to space (take (length rest - b) (drop b rest))) (take (length rest - b) (drop b rest))) third.first third.later
        (fields ∙ ap (λ x. take a rest ∷ x) (second ∙ ap (λ x. take (up_to space (take (length rest - b) (drop b rest))) (take (length rest - b) (drop b rest)) ∷ x) third.is))

    pub rest-two : length (take (length rest - b) (drop b rest)) ≤ c → c ≤ length (take (length rest - b) (drop b rest))
        → two_command w (take (a - 0) (drop 0 rest)) (take (length rest - b) (drop b rest)) ≡ rest_command w rest
    unfolding rest_command two_command some_empty read_fields
    rest-two l m =
        let g : fields_of (take (length rest - b) (drop b rest)) ≡ take (length rest - b) (drop b rest) ∷ []
        = one_field (take (length rest - b) (drop b rest)) (omega arith) in
        rw (fields, g, part-front rest a) (by_tests (eqb (length (take a rest)) 0) (eqb (length (take (length rest - b) (drop b rest))) 0) _)
      where
        by_tests : (x y : Bool) (d : Command) → cond x bad (cond y bad d) ≡ cond (x || (y || false)) bad d
        by_tests true y d = refl
        by_tests false true d = refl
        by_tests false false d = refl

-- THE LINE
pub line-long : (line : List ℕ) → 255 < length line → command_of line ≡ bad
unfolding command_of
line-long line h = rw (lt-ltb 255 (length line) h) refl

module _ (line : List ℕ) (short : length line ≤ 255) (a : ℕ) (a-is : a ≡ up_to space line) where
  pub line_word : a ≡ length line → command_of line ≡ word_alone line
  unfolding command_of some_empty read_fields
  line_word e =
      let f : fields_of line ≡ line ∷ [] = one_field line (sym a-is ∙ e) in
      rw (le-ltb 255 (length line) short, f) (by_length line)
    where
      by_length : (l : List ℕ) → cond (eqb (length l) 0 || false) bad (word_alone l) ≡ word_alone l
      by_length [] = unfold word_alone same in refl
      by_length (b ∷ l) = rw (ne_eqb (length (b ∷ l)) 0 (λ h. omega arith)) refl

  pub line-rest : (a ≡ length line → ⊥) → a ≤ length line → (b : ℕ) → b ≡ a + 1
      → command_of line ≡ rest_command (take (a - 0) (drop 0 line)) (take (length line - b) (drop b line))
  unfolding command_of rest_command some_empty
  line-rest more within b b-is =
      let l : up_to space line < length line = omega (arith, more) in
      let f : fields_of line ≡ take a line ∷ fields_of (drop b line)
      = more-fields line l ∙ ap₂ (λ x y. x ∷ y) (ap (λ k. take k line) (sym a-is)) (ap (λ k. fields_of (drop (k + 1) line)) (sym a-is) ∙ ap (λ k. fields_of (drop k line)) (sym b-is)) in
      rw (le-ltb 255 (length line) short, f, part_end line b, part-front line a) (by_word (take a line) (fields_of (drop b line)))
    where
      empty-word : (fs : List (List ℕ)) → read_fields ([] ∷ fs) ≡ bad
      empty-word [] = unfold read_fields word_alone same in refl
      empty-word (p ∷ []) = unfold read_fields word_and_path same in refl
      empty-word (p ∷ q ∷ []) = unfold read_fields word_and_two same in refl
      empty-word (p ∷ q ∷ r ∷ fs) = unfold read_fields in refl

      by_word : (w : List ℕ) (fs : List (List ℕ)) → cond (eqb (length w) 0 || some_empty fs) bad (read_fields (w ∷ fs)) ≡ cond (some_empty fs) bad (read_fields (w ∷ fs))
      by_word [] fs = rw (empty-word fs) (either-bad (some_empty fs))
      by_word (b ∷ w) fs = rw (ne_eqb (length (b ∷ w)) 0 (λ h. omega arith)) refl
