-- Paths and values read from text: what each way out of the code leaves at the front of its buffer.
use Rattle.std.specs.Prelude.{ℕ, suc, ◌+◌, ◌*◌, ◌-◌, ◌<◌, ◌≤◌, ◌≡◌, refl, List, [], ◌∷◌, ◌++◌, Bool, true, false, length, take, drop, get_or, set, Some, None}
use Rattle.std.specs.Prelude as std
use Rattle.image.specs.Prelude.{sym, ap, ◌∙◌, append_assoc, append-nil, Option, none, some, arith, drop_of_length-le, length-set, drop-cons, lt-ltb, le-ltb}
use Rattle.image.specs.Path.{value_limit}
use Rattle.image.specs.Bytes.{same}
use Rattle.image.specs.Sound.{is_in}
use Rattle.image.specs.Program.{slash, exchanged, path_of, digit_of, behind, bytes_of, value_of, hyphen, hex_text, value_text}
use Rattle.script.specs.Find.{up_to, in-found, in-none}
use Rattle.script.specs.Writing.{Wrote, set_next, hex-length, exchanged-length}

-- the first r bytes of a buffer
pub record Front (bytes : List ℕ) (r : ℕ) (buffer : List ℕ) : Type 0 where
  pub is : take r buffer ≡ bytes
  pub within : r ≤ length buffer

-- A PATH
module _ (text : List ℕ) (x : Bool) (x-is : x ≡ same text (slash ∷ [])) where
  pub empty-path : (buffer : List ℕ) → x ≡ true → Front (path_of text) 0 buffer
  unfolding path_of
  empty-path buffer f = record { is = rw (sym x-is ∙ f) refl; within = omega arith }

  module _ (x-no : x ≡ false) (k : ℕ) (buffer : List ℕ) (k-is : k ≡ up_to 0 text) where
    pub no-path : k < length text → length text < length buffer → Front (path_of text) 1 (set buffer 0 0)
    unfolding path_of
    no-path h l =
        let z : is_in 0 text ≡ true = in-found 0 text (omega arith) in
        let n = length-set buffer 0 0 in
        record { is = set_next buffer 0 0 (omega arith) ∙ rw (sym x-is ∙ x-no, z) refl; within = omega arith }

    pub path-read : (end : ℕ) (buffer₁ : List ℕ) → length text ≤ k → Wrote buffer 0 (exchanged slash 0 text) end buffer₁ → end < length buffer₁
        → Front (path_of text) (end + 1) (set buffer₁ end 0)
    unfolding path_of
    path-read end buffer₁ h w l =
        let z : is_in 0 text ≡ false = in-none 0 text (omega arith) in
        let n = length-set buffer₁ end 0 in
        record { is = set_next buffer₁ end 0 l ∙ ap (λ b. b ++ (0 ∷ [])) w.bytes ∙ rw (sym x-is ∙ x-no, z) refl; within = omega arith }

pub path-end : (text buffer : List ℕ) (end : ℕ) (buffer₁ : List ℕ) → Wrote buffer 0 (exchanged slash 0 text) end buffer₁ → end ≡ length text
path-end text buffer end buffer₁ w = let n = exchanged-length slash 0 text in omega (arith, w.ends)

-- A VALUE
unfoldable pub value_read : std.Option ℕ → List ℕ → Option (List ℕ)
value_read (Some n) buffer = some (take n buffer)
value_read None buffer = none

unfoldable pub read_length : std.Option ℕ → ℕ
read_length (Some n) = n
read_length None = 0

pub record Parsed (want : Option (List ℕ)) (r : std.Option ℕ) (buffer : List ℕ) : Type 0 where
  pub is : value_read r buffer ≡ want
  pub within : read_length r ≤ length buffer

pub wrong-value : (want : Option (List ℕ)) (buffer : List ℕ) → none ≡ want → Parsed want None buffer
unfolding value_read read_length
wrong-value want buffer e = record { is = e; within = omega arith }

pub hyphen-value : (text buffer : List ℕ) (x : Bool) → x ≡ same text (hyphen ∷ []) → x ≡ true → Parsed (value_of text) (Some 0) buffer
unfolding value_read read_length value_of
hyphen-value text buffer x e f = record { is = rw (sym e ∙ f) refl; within = omega arith }

pub other-value : (text buffer : List ℕ) (x : Bool) (r : std.Option ℕ) → x ≡ same text (hyphen ∷ []) → x ≡ false → Parsed (bytes_of text) r buffer → Parsed (value_of text) r buffer
unfolding value_of
other-value text buffer x r e f p = record { is = p.is ∙ rw (sym e ∙ f) refl; within = p.within }

-- bytes that were read already, before the others
unfoldable pub behind_all : List ℕ → Option (List ℕ) → Option (List ℕ)
behind_all done none = none
behind_all done (some v) = some (done ++ v)

behind-none : (done : List ℕ) → behind_all done none ≡ none
unfolding behind_all
behind-none done = refl

behind_more : (done : List ℕ) (b : ℕ) (o : Option (List ℕ)) → behind_all done (behind b o) ≡ behind_all (done ++ (b ∷ [])) o
unfolding behind_all behind
behind_more done b none = refl
behind_more done b (some v) = ap some (sym (append_assoc done (b ∷ []) v))

pub hex-begins : (hex value : List ℕ) → bytes_of hex ≡ behind_all (take 0 value) (bytes_of (drop 0 hex))
hex-begins hex value = go (bytes_of hex)
  where
    go : (o : Option (List ℕ)) → o ≡ behind_all [] o
    go none = unfold behind_all in refl
    go (some v) = unfold behind_all in refl

drop-two : (hex : List ℕ) (i : ℕ) → i + 1 < length hex → drop i hex ≡ get_or hex i 0 ∷ get_or hex (i + 1) 0 ∷ drop (i + 2) hex
drop-two hex i h =
    let a : i + 1 ≡ suc i = omega arith in
    let b : i + 2 ≡ suc (suc i) = omega arith in
    drop-cons hex i 0 (omega arith) ∙ rw (a, b) (ap (λ l. get_or hex i 0 ∷ l) (drop-cons hex (suc i) 0 (omega arith)))

-- the loop that reads has read i digits into n bytes
module _ (hex value : List ℕ) (i n : ℕ) (seen : bytes_of hex ≡ behind_all (take n value) (bytes_of (drop i hex))) where
  pub odd-digit : i < length hex → length hex - i < 2 → none ≡ bytes_of hex
  odd-digit h e =
      let last : length hex ≤ suc i = omega arith in
      let z : drop i hex ≡ get_or hex i 0 ∷ [] = drop-cons hex i 0 h ∙ ap (λ l. get_or hex i 0 ∷ l) (drop_of_length-le hex last) in
      let y : bytes_of (get_or hex i 0 ∷ []) ≡ none = unfold bytes_of in refl in
      sym (seen ∙ ap (λ l. behind_all (take n value) (bytes_of l)) z ∙ ap (behind_all (take n value)) y ∙ behind-none (take n value))

  module _ (even : 2 ≤ length hex - i) (high : ℕ) (high_is : high ≡ digit_of (get_or hex i 0)) where
    two : drop i hex ≡ get_or hex i 0 ∷ get_or hex (i + 1) 0 ∷ drop (i + 2) hex
    two = drop-two hex i (omega arith)

    pub high-wrong : 15 < high → none ≡ bytes_of hex
    high-wrong l = sym (seen ∙ ap (λ x. behind_all (take n value) (bytes_of x)) two ∙ ap (behind_all (take n value)) first ∙ behind-none (take n value))
      where
        first : bytes_of (get_or hex i 0 ∷ get_or hex (i + 1) 0 ∷ drop (i + 2) hex) ≡ none
        first = unfold bytes_of in rw (sym high_is, lt-ltb 15 high l) refl

    module _ (high_fits : high ≤ 15) (low : ℕ) (low_is : low ≡ digit_of (get_or hex (i + 1) 0)) where
      pub low-wrong : 15 < low → none ≡ bytes_of hex
      low-wrong l = sym (seen ∙ ap (λ x. behind_all (take n value) (bytes_of x)) two ∙ ap (behind_all (take n value)) second ∙ behind-none (take n value))
        where
          second : bytes_of (get_or hex i 0 ∷ get_or hex (i + 1) 0 ∷ drop (i + 2) hex) ≡ none
          second = unfold bytes_of in rw (sym high_is, sym low_is, le-ltb 15 high high_fits, lt-ltb 15 low l) refl

      pub both_right : low ≤ 15 → n < length value → bytes_of hex ≡ behind_all (take (n + 1) (set value n (16 * high + low))) (bytes_of (drop (i + 2) hex))
      both_right l k =
          seen ∙ ap (λ x. behind_all (take n value) (bytes_of x)) two ∙ ap (behind_all (take n value)) next
          ∙ behind_more (take n value) (16 * high + low) (bytes_of (drop (i + 2) hex))
          ∙ ap (λ x. behind_all x (bytes_of (drop (i + 2) hex))) (sym (set_next value n (16 * high + low) k))
        where
          next : bytes_of (get_or hex i 0 ∷ get_or hex (i + 1) 0 ∷ drop (i + 2) hex) ≡ behind (16 * high + low) (bytes_of (drop (i + 2) hex))
          next = unfold bytes_of in rw (sym high_is, sym low_is, le-ltb 15 high high_fits, le-ltb 15 low l) refl

  -- the loop that reads has read all pairs of digits, and one is left
  pub hex-odd : length hex ≡ i + 1 → none ≡ bytes_of hex
  hex-odd h = odd-digit (omega arith) (omega arith)

  pub hex-read : length hex ≤ i → n ≤ length value → Parsed (bytes_of hex) (Some n) value
  unfolding value_read read_length
  hex-read h k =
      let z : drop i hex ≡ [] = drop_of_length-le hex h in
      let y : behind_all (take n value) (bytes_of []) ≡ some (take n value) = unfold bytes_of behind_all in ap some (append-nil (take n value)) in
      record { is = sym (seen ∙ ap (λ x. behind_all (take n value) (bytes_of x)) z ∙ y); within = k }

-- A VALUE AS TEXT
pub empty-text : (v : List ℕ) → length v ≡ 0 → hyphen ∷ [] ≡ value_text v
unfolding value_text
empty-text [] h = refl
empty-text (b ∷ v) h = absurd (omega arith)

pub some-text : (v : List ℕ) → (length v ≡ 0 → ⊥) → hex_text v ≡ value_text v
unfolding value_text
some-text [] h = absurd (h refl)
some-text (b ∷ v) h = refl

pub text-short : (v : List ℕ) → length v ≤ value_limit → length (value_text v) ≤ 2 * value_limit
unfolding value_text
text-short [] h = omega arith
text-short (b ∷ v) h = let n = hex-length (b ∷ v) in omega arith
