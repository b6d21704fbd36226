-- A get in the words of a reader: on a sound store, of a well-formed path and with a buffer that is long enough, it is answered by the value
-- that the store gives the path, and refused 8 exactly where there is none. All of it follows from the contract of get.
-- Relies on: the questions of a get (Asked), and the law that the table holds what lookup finds (laws/LookupTable).
use Rattle.std.specs.Prelude.{ℕ, ◌≤◌, ◌≡◌, refl, List, [], ◌∷◌, ◌++◌, true, length, drop}
use Rattle.image.specs.Prelude.{sym, ap, ◌∙◌, Option, none, some, arith, le-leb}
use Rattle.image.specs.Path.{well_formed, value_limit}
use Rattle.image.specs.Table.{find, is_some}
use Rattle.image.specs.Image.{whole_nodes}
use Rattle.image.specs.Sound.{sound, value_in, table_of}
use Rattle.image.specs.Calls.{asks, get, filled, ask, first_no, found_by, fill, accepted, refused, answer_at}
use Rattle.image.specs.Contract.{first_no_on, Meets}
use Rattle.laws.specs.LookupTable.{means-table}
use Rattle.query.specs.Asked.{paths_fit, buffer_limit, number_is}
use Rattle.query.specs.Front.{Front, front-filled}

-- The path has the value v: the answer is 0 with the value's length, the value stands at the front of the buffer, and behind it nothing changed.
pub record Given (v buffer : List ℕ) (k n : ℕ) (buffer' : List ℕ) : Type 0 where
  pub number : k ≡ 0
  pub there : Front v buffer n buffer'

-- The path has no value: the answer is 8, with a 0 beside it, and the buffer is as it was.
pub record Missing (buffer : List ℕ) (k n : ℕ) (buffer' : List ℕ) : Type 0 where
  pub number : k ≡ 8
  pub beside : n ≡ 0
  pub kept : buffer' ≡ buffer

pub record GetAnswers (s p buffer : List ℕ) (k n : ℕ) (buffer' : List ℕ) : Type 0 where
  pub present : (v : List ℕ) → value_in s p ≡ some v → Given v buffer k n buffer'
  pub absent : value_in s p ≡ none → Missing buffer k n buffer'
  pub refused_absent : k ≡ 8 → value_in s p ≡ none

module _ (s p buffer : List ℕ) (whole : whole_nodes (length s) ≡ true) (is_sound : sound s ≡ true) (formed : well_formed p ≡ true)
    (room : value_limit ≤ length buffer) where
  -- of the questions only 8 can be a no
  eight-alone : first_no_on s (asks (get p) buffer) ≡ first_no (ask 8 (is_some (find p (table_of s))) ∷ [])
  unfolding first_no paths_fit buffer_limit found_by
  eight-alone = number_is s (get p) buffer ∙ rw (whole, is_sound, formed, le-leb value_limit (length buffer) room) refl

  module _ (k n : ℕ) (buffer' s' : List ℕ) (m : Meets s (asks (get p) buffer) (filled k n buffer') s' []) where
    given : (v : List ℕ) → value_in s p ≡ some v → Given v buffer k n buffer'
    unfolding first_no is_some answer_at accepted found_by fill
    given v e =
        let found : find p (table_of s) ≡ some v = sym (means-table s is_sound p) ∙ e in
        let no : first_no_on s (asks (get p) buffer) ≡ 0 = eight-alone ∙ rw found refl in
        let answer : filled k n buffer' ≡ filled 0 (length v) (v ++ drop (length v) buffer) = m.answer ∙ rw (no, found) in
        record { number = cc; there = front-filled v buffer n buffer' (cc) (cc) }

    missing : value_in s p ≡ none → Missing buffer k n buffer'
    unfolding first_no is_some answer_at refused
    missing e =
        let found : find p (table_of s) ≡ none = sym (means-table s is_sound p) ∙ e in
        let no : first_no_on s (asks (get p) buffer) ≡ 8 = eight-alone ∙ rw found refl in
        let answer : filled k n buffer' ≡ filled 8 0 buffer = m.answer ∙ ap (λ j. answer_at j (asks (get p) buffer) (table_of s)) no in
        record { number = cc; beside = cc; kept = cc }

    pub get-answers : GetAnswers s p buffer k n buffer'
    get-answers = record { present = given; absent = missing; refused_absent = λ h. by_value h (value_in s p) refl }
      where
        by_value : k ≡ 8 → (o : Option (List ℕ)) → value_in s p ≡ o → value_in s p ≡ none
        by_value h none e = e
        by_value h (some v) e = let g = given v e in absurd (omega (arith, g.number, h))
