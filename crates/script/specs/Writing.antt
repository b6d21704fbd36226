-- Text put into a buffer from a place on, and its laws: one text after another is one text. Relies on: octets' put.
use Rattle.std.specs.Prelude.{ℕ, suc, ◌+◌, ◌*◌, ◌/◌, ◌%◌, ◌<◌, ◌≤◌, ◌≡◌, refl, List, [], ◌∷◌, ◌++◌, cond, length, take, drop, get_or, set, eqb}
use Rattle.image.specs.Prelude.{sym, ap, ap₂, ◌∙◌, append_assoc, append-nil, arith, length-append, length-set, length-take, take-suc, take-suc-set, take_at, length-take-le, take_all}
use Rattle.octets.specs.Put.{put}
use Rattle.image.specs.Program.{exchanged, hex_text, digit_text}

-- after the text was put at `at`, r is where it ends
pub record Wrote (out : List ℕ) (at : ℕ) (text : List ℕ) (r : ℕ) (out' : List ℕ) : Type 0 where
  pub bytes : take r out' ≡ take at out ++ text
  pub ends : r ≡ at + length text

pub wrote-copy : (out : List ℕ) (at : ℕ) (text out' : List ℕ) → at + length text ≤ length out → out' ≡ put out at text → Wrote out at text (at + length text) out'
unfolding put
wrote-copy out at text out' h e =
    let n : length (take at out ++ text) ≡ at + length text = length-append (take at out) text ∙ ap (λ k. k + length text) (length-take-le at out (omega arith)) in
    record {
      bytes =
          ap (take (at + length text)) (e ∙ sym (append_assoc (take at out) text (drop (at + length text) out)))
          ∙ take_at (take at out ++ text) (drop (at + length text) out) (at + length text) n;
      ends = refl;
    }

pub wrote_on : (out : List ℕ) (at : ℕ) (a : List ℕ) (r : ℕ) (out₁ b : List ℕ) (r' : ℕ) (out₂ : List ℕ) → Wrote out at a r out₁ → Wrote out₁ r b r' out₂ → Wrote out at (a ++ b) r' out₂
wrote_on out at a r out₁ b r' out₂ w v =
    let n = length-append a b in
    record {
      bytes = v.bytes ∙ ap (λ l. l ++ b) w.bytes ∙ append_assoc (take at out) a b;
      ends = omega (arith, w.ends, v.ends);
    }

-- the text lies within the buffer
pub wrote-within : (out text : List ℕ) (r : ℕ) (out' : List ℕ) → Wrote out 0 text r out' → r ≤ length out'
wrote-within out text r out' w =
    let a : length (take r out') ≡ length text = ap length w.bytes in
    let b = length-take r out' in
    omega (arith, w.ends)

pub wrote_as : (out : List ℕ) (at : ℕ) (a b : List ℕ) (r : ℕ) (out' : List ℕ) → a ≡ b → Wrote out at a r out' → Wrote out at b r out'
wrote_as out at a b r out' e w = rw (← e) w

-- at the front, what stood there before does not matter
pub wrote-front : (out out₁ text : List ℕ) (r : ℕ) (out' : List ℕ) → Wrote out₁ 0 text r out' → Wrote out 0 text r out'
wrote-front out out₁ text r out' w = record { bytes = w.bytes; ends = w.ends }

-- one byte more behind what stands there
pub set_next : (out : List ℕ) (k v : ℕ) → k < length out → take (k + 1) (set out k v) ≡ take k out ++ (v ∷ [])
set_next out k v h = let z : k + 1 ≡ suc k = omega arith in ap (λ n. take n (set out k v)) z ∙ take-suc-set out k v h

pub wrote-byte : (out : List ℕ) (at v : ℕ) → at < length out → Wrote out at (v ∷ []) (at + 1) (set out at v)
wrote-byte out at v h = record { bytes = set_next out at v h; ends = refl }

-- EACH BYTE AS ANOTHER
exchanged-append : (a b : ℕ) (s t : List ℕ) → exchanged a b (s ++ t) ≡ exchanged a b s ++ exchanged a b t
unfolding exchanged
exchanged-append a b [] t = refl
exchanged-append a b (c ∷ s) t = ap (λ l. cond (eqb c a) b c ∷ l) (exchanged-append a b s t)

pub exchanged-length : (a b : ℕ) (s : List ℕ) → length (exchanged a b s) ≡ length s
unfolding exchanged
exchanged-length a b [] = refl
exchanged-length a b (c ∷ s) = ap suc (exchanged-length a b s)

pub exchanged-next : (a b : ℕ) (s : List ℕ) (i : ℕ) → i < length s
    → exchanged a b (take (i + 1) s) ≡ exchanged a b (take i s) ++ (cond (eqb (get_or s i 0) a) b (get_or s i 0) ∷ [])
unfolding exchanged
exchanged-next a b s i h =
    let z : i + 1 ≡ suc i = omega arith in
    ap (λ n. exchanged a b (take n s)) z ∙ ap (exchanged a b) (take-suc s i 0 h) ∙ exchanged-append a b (take i s) (get_or s i 0 ∷ [])

-- the loop that puts them has put the first i
module _ (out₀ : List ℕ) (at a b : ℕ) (s out : List ℕ) (i : ℕ) (done : take (at + i) out ≡ take at out₀ ++ exchanged a b (take i s)) where
  pub exchange-more : (v : ℕ) → i < length s → at + i < length out → v ≡ cond (eqb (get_or s i 0) a) b (get_or s i 0)
      → take (at + (i + 1)) (set out (at + i) v) ≡ take at out₀ ++ exchanged a b (take (i + 1) s)
  exchange-more v h k e =
      let z : at + (i + 1) ≡ at + i + 1 = omega arith in
      ap (λ n. take n (set out (at + i) v)) z ∙ set_next out (at + i) v k
      ∙ ap₂ (λ l x. l ++ (x ∷ [])) done e
      ∙ append_assoc (take at out₀) (exchanged a b (take i s)) (cond (eqb (get_or s i 0) a) b (get_or s i 0) ∷ [])
      ∙ ap (λ l. take at out₀ ++ l) (sym (exchanged-next a b s i h))

  pub exchange-done : i ≤ length s → length s ≤ i → Wrote out₀ at (exchanged a b s) (at + i) out
  exchange-done h k =
      let z : take i s ≡ s = take_all i s k in
      let n = exchanged-length a b s in
      record { bytes = done ∙ ap (λ l. take at out₀ ++ exchanged a b l) z; ends = omega arith }

pub exchange-starts : (out : List ℕ) (at a b : ℕ) (s : List ℕ) → take (at + 0) out ≡ take at out ++ exchanged a b (take 0 s)
unfolding exchanged
exchange-starts out at a b s = let z : at + 0 ≡ at = omega arith in ap (λ n. take n out) z ∙ sym (append-nil (take at out))

-- HEXADECIMAL
hex-append : (s t : List ℕ) → hex_text (s ++ t) ≡ hex_text s ++ hex_text t
unfolding hex_text
hex-append [] t = refl
hex-append (b ∷ s) t = ap (λ l. digit_text (b / 16) ∷ digit_text (b % 16) ∷ l) (hex-append s t)

pub hex-length : (s : List ℕ) → length (hex_text s) ≡ 2 * length s
unfolding hex_text
hex-length [] = refl
hex-length (b ∷ s) = let ih = hex-length s in omega arith

module _ (out₀ : List ℕ) (at : ℕ) (v out : List ℕ) (i : ℕ) (done : take (at + 2 * i) out ≡ take at out₀ ++ hex_text (take i v)) where
  pub hex-more : (x y : ℕ) → i < length v → at + 2 * i + 1 < length out → x ≡ digit_text (get_or v i 0 / 16) → y ≡ digit_text (get_or v i 0 % 16)
      → take (at + 2 * (i + 1)) (set (set out (at + 2 * i) x) (at + 2 * i + 1) y) ≡ take at out₀ ++ hex_text (take (i + 1) v)
  unfolding hex_text
  hex-more x y h k e f =
      let z : at + 2 * (i + 1) ≡ at + 2 * i + 1 + 1 = omega arith in
      let n : at + 2 * i + 1 < length (set out (at + 2 * i) x) = rw (length-set out (at + 2 * i) x) k in
      let j : i + 1 ≡ suc i = omega arith in
      let more : hex_text (take (i + 1) v) ≡ hex_text (take i v) ++ (digit_text (get_or v i 0 / 16) ∷ digit_text (get_or v i 0 % 16) ∷ [])
      = ap (λ m. hex_text (take m v)) j ∙ ap hex_text (take-suc v i 0 h) ∙ hex-append (take i v) (get_or v i 0 ∷ []) in
      ap (λ m. take m (set (set out (at + 2 * i) x) (at + 2 * i + 1) y)) z
      ∙ set_next (set out (at + 2 * i) x) (at + 2 * i + 1) y n
      ∙ ap (λ l. l ++ (y ∷ [])) (set_next out (at + 2 * i) x (omega arith))
      ∙ append_assoc (take (at + 2 * i) out) (x ∷ []) (y ∷ [])
      ∙ ap (λ l. l ++ (x ∷ y ∷ [])) done
      ∙ ap₂ (λ p q. (take at out₀ ++ hex_text (take i v)) ++ (p ∷ q ∷ [])) e f
      ∙ append_assoc (take at out₀) (hex_text (take i v)) (digit_text (get_or v i 0 / 16) ∷ digit_text (get_or v i 0 % 16) ∷ [])
      ∙ ap (λ l. take at out₀ ++ l) (sym more)

  pub hex-done : i ≤ length v → length v ≤ i → Wrote out₀ at (hex_text v) (at + 2 * i) out
  hex-done h k =
      let z : take i v ≡ v = take_all i v k in
      let n = hex-length v in
      record { bytes = done ∙ ap (λ l. take at out₀ ++ hex_text l) z; ends = omega arith }

pub hex-starts : (out : List ℕ) (at : ℕ) (v : List ℕ) → take (at + 2 * 0) out ≡ take at out ++ hex_text (take 0 v)
unfolding hex_text
hex-starts out at v = let z : at + 2 * 0 ≡ at = omega arith in ap (λ n. take n out) z ∙ sym (append-nil (take at out))
