-- The reader of a piece and the writer of an answer: one law for each way out of the code.
use Rattle.std.specs.Prelude.{ℕ, ◌+◌, ◌-◌, ◌<◌, ◌≤◌, ◌≡◌, refl, List, ◌∷◌, ◌++◌, Bool, true, false, ◌&&◌, cond, length, take, drop, leb, Result, Ok, Err}
use Rattle.image.specs.Prelude.{sym, ap, ap₂, ◌∙◌, none, some, arith, length-drop, length-append, drop-drop, length-take-le, le-leb, lt-leb, eq-eqb, ne_eqb}
use Rattle.image.specs.Path.{path_limit}
use Rattle.image.specs.Bytes.{u16, u16_bytes}
use Rattle.image.specs.Entry.{pair, keyed}
use Rattle.image.specs.Calls as calls
use Rattle.image.specs.Calls.{Act, Upkeep}
use Rattle.image.specs.Answers.{refusal_number, outcome_number, outcome_answer, found_answer}
use Rattle.image.specs.Batch.{Request, acting, keeping, asking, two_of, node_of, request_of, first_request, behind, requests_of, answer_bytes}
use Rattle.image.specs.declared.Refusal.{Refusal}
use Rattle.octets.specs.Put.{put, put-put, put-size}
use Rattle.node.specs.Lent.{Unkeyed, Keyed, front-u16}
use Rattle.query.specs.Asked.{found_length}
use Rattle.requests.specs.declared.Piece.{Piece}
use Rattle.requests.specs.Pieces.{request_is, NotNode, IsNode, NotOf, IsOf, Unread, Leads, head_bytes}
use Rattle.requests.specs.Requests.{requests-end, requests-more}

-- A PIECE
unread : (s : List ℕ) → first_request s ≡ none → Unread s
unread s e = record { first = e; lists = requests-end s e }

pub unread-short : (s : List ℕ) → length s < 4 → Unread s
unread-short s h = unread s (unfold first_request in rw (lt-leb 4 (length s) h) refl)

node-some : (u : Upkeep) (r : List ℕ) → length r ≡ 2 → node_of u r ≡ some (keeping u (u16 r 0))
unfolding node_of
node-some u r e = rw (eq-eqb (length r) 2 e)

node-none : (u : Upkeep) (r : List ℕ) → (length r ≡ 2 → ⊥) → node_of u r ≡ none
unfolding node_of
node-none u r e = rw (ne_eqb (length r) 2 e)

-- two strings, as a pair of a leaf has them
two_none : (make : List ℕ → List ℕ → Request) (r : List ℕ) → keyed pair r ≡ none → two_of make r ≡ none
unfolding keyed two_of
two_none make r e = go (leb 2 (length r) && leb (u16 r 0) (length r - 2)) e
  where
    go : (b : Bool) → cond b (some (pair (take (u16 r 0) (drop 2 r)) (drop (u16 r 0) (drop 2 r)))) none ≡ none
        → cond b (some (make (take (u16 r 0) (drop 2 r)) (drop (u16 r 0) (drop 2 r)))) none ≡ none
    go true f = absurd (let z : ◌≡◌ {A = ℕ} 0 1 = cc in omega arith)
    go false f = refl

two-some : (make : List ℕ → List ℕ → Request) (r p q : List ℕ) → keyed pair r ≡ some (pair p q) → two_of make r ≡ some (make p q)
unfolding keyed two_of
two-some make r p q e = go (leb 2 (length r) && leb (u16 r 0) (length r - 2)) e
  where
    go : (b : Bool) → cond b (some (pair (take (u16 r 0) (drop 2 r)) (drop (u16 r 0) (drop 2 r)))) none ≡ some (pair p q)
        → cond b (some (make (take (u16 r 0) (drop 2 r)) (drop (u16 r 0) (drop 2 r)))) none ≡ some (make p q)
    go true f =
        let a : take (u16 r 0) (drop 2 r) ≡ p = cc in
        let b : drop (u16 r 0) (drop 2 r) ≡ q = cc in
        ap₂ (λ x y. some (make x y)) a b
    go false f = absurd (let z : ◌≡◌ {A = ℕ} 0 1 = cc in omega arith)

-- the kinds
module _ (r : List ℕ) where
  pub put-none : Unkeyed r → NotOf 32 r
  unfolding request_of
  put-none h = two_none _ r (h pair)

  pub put-some : (p v : List ℕ) → Keyed r p v → request_of 32 r ≡ some (acting (calls.put p v))
  unfolding request_of
  put-some p v h = two-some _ r p v (h pair)

  pub move-none : Unkeyed r → NotOf 36 r
  unfolding request_of
  move-none h = two_none _ r (h pair)

  pub move-some : (p q : List ℕ) → Keyed r p q → request_of 36 r ≡ some (acting (calls.move p q))
  unfolding request_of
  move-some p q h = two-some _ r p q (h pair)

  pub next-none : Unkeyed r → NotOf 49 r
  unfolding request_of
  next-none h = two_none _ r (h pair)

  pub next-some : (p q : List ℕ) → Keyed r p q → request_of 49 r ≡ some (asking (calls.next p q))
  unfolding request_of
  next-some p q h = two-some _ r p q (h pair)

  pub flush-none : NotNode r → NotOf 66 r
  unfolding request_of
  flush-none h = node-none calls.flush r h

  pub flush-some : (i : ℕ) → IsNode r i → request_of 66 r ≡ some (keeping calls.flush i)
  unfolding request_of
  flush-some i h = node-some calls.flush r h.0 ∙ ap (λ k. some (keeping calls.flush k)) (sym h.1)

  pub heal-none : NotNode r → NotOf 67 r
  unfolding request_of
  heal-none h = node-none calls.heal r h

  pub heal-some : (i : ℕ) → IsNode r i → request_of 67 r ≡ some (keeping calls.heal i)
  unfolding request_of
  heal-some i h = node-some calls.heal r h.0 ∙ ap (λ k. some (keeping calls.heal k)) (sym h.1)

  pub kind-other : (kind : ℕ) → (kind ≡ 32 → ⊥) → (kind ≡ 33 → ⊥) → (kind ≡ 34 → ⊥) → (kind ≡ 36 → ⊥) → (kind ≡ 48 → ⊥) → (kind ≡ 49 → ⊥)
      → (kind ≡ 64 → ⊥) → (kind ≡ 65 → ⊥) → (kind ≡ 66 → ⊥) → (kind ≡ 67 → ⊥) → NotOf kind r
  unfolding request_of
  kind-other kind a b c d e f g h i j =
      rw (
        ne_eqb kind 32 a,
        ne_eqb kind 33 b,
        ne_eqb kind 34 c,
        ne_eqb kind 36 d,
        ne_eqb kind 48 e,
        ne_eqb kind 49 f,
        ne_eqb kind 64 g,
        ne_eqb kind 65 h,
        ne_eqb kind 66 i,
        ne_eqb kind 67 j,
      )

-- Bytes parted behind the two numbers n and k in front.
module _ (s front body : List ℕ) (four : 4 ≤ length s) (f : front ≡ take 4 s) (b : body ≡ drop 4 s) (n k : ℕ) (e : n ≡ u16 front 0) (g : k ≡ u16 front 2) where
  size-is : n ≡ u16 s 0
  size-is = e ∙ ap (λ x. u16 x 0) f ∙ front-u16 s 4 0 (omega arith)

  kind-is : k ≡ u16 s 2
  kind-is = g ∙ ap (λ x. u16 x 2) f ∙ front-u16 s 4 2 (omega arith)

  body-length : length body + 4 ≡ length s
  body-length = let d = length-drop 4 s in let l = ap length b in omega arith

  pub unread-over : length body < n → Unread s
  unread-over h = unread s none-first
    where
      none-first : first_request s ≡ none
      none-first =
          unfold first_request in
          let l = body-length in
          let c = size-is in
          rw (le-leb 4 (length s) four, lt-leb (u16 s 0) (length s - 4) (omega arith)) refl

  module _ (h : n ≤ length body) (rest later : List ℕ) (p : rest ≡ take n body) (q : later ≡ drop n body) where
    first-here : first_request s ≡ request_of k rest
    first-here =
        unfold first_request in
        let l = body-length in
        let c = size-is in
        rw (le-leb 4 (length s) four, le-leb (u16 s 0) (length s - 4) (omega arith))
        (ap₂ (λ x y. request_of x y) (sym kind-is) (ap₂ (λ i y. take i y) (sym size-is) (sym b) ∙ sym p))

    behind-here : behind s ≡ later
    behind-here = unfold behind in sym (drop-drop (u16 s 0) 4 s) ∙ ap₂ (λ i y. drop i y) (sym size-is) (sym b) ∙ sym q

    pub unread-kind : NotOf k rest → Unread s
    unread-kind o = unread s (first-here ∙ o)

    pub leads : (x : Piece) → IsOf k rest x → Leads s x later
    leads x o =
        let l = body-length in
        let m = length-drop n body in
        let z = ap length q in
        record {
          first = first-here ∙ o;
          later = behind-here;
          lists = requests-more s (request_is x) (first-here ∙ o) ∙ ap (λ y. request_is x ∷ requests_of y) behind-here;
          shorter = omega arith;
        }

-- AN ANSWER
pub head-written : (page page₁ page₂ : List ℕ) (at len number : ℕ) → at + 4 ≤ length page → page₁ ≡ put page at (u16_bytes len) → page₂ ≡ put page₁ (at + 2) (u16_bytes number)
    → page₂ ≡ put page at (head_bytes len number)
head-written page page₁ page₂ at len number h e f =
    f ∙ ap (λ x. put x (at + 2) (u16_bytes number)) e ∙ put-put page at (u16_bytes len) (u16_bytes number) (omega arith)

pub outcome-written : (page page' : List ℕ) (at number : ℕ) (o : Result (Unit {0}) Refusal) → number ≡ outcome_number o → page' ≡ put page at (head_bytes 0 number)
    → (page' ≡ put page at (answer_bytes (outcome_answer o))) × (at + 4 ≡ at + length (answer_bytes (outcome_answer o)))
unfolding answer_bytes outcome_answer
outcome-written page page' at number o n e = (e ∙ rw n refl, refl)

pub refusal-written : (page page' buffer : List ℕ) (at number : ℕ) (found : Result ℕ Refusal) (q : Refusal) → found ≡ Err q → number ≡ refusal_number q → page' ≡ put page at (head_bytes 0 number)
    → (page' ≡ put page at (answer_bytes (found_answer found buffer))) × (at + 4 ≡ at + length (answer_bytes (found_answer found buffer)))
unfolding answer_bytes found_answer
refusal-written page page' buffer at number found q f n e = (e ∙ rw (n, f) refl, rw f refl)

pub found-written : (page page₁ page₂ buffer : List ℕ) (at n : ℕ) (found : Result ℕ Refusal) → found ≡ Ok n → at + 4 + n ≤ length page → n ≤ length buffer
    → page₁ ≡ put page at (head_bytes n 0) → page₂ ≡ put page₁ (at + 4) (take (n - 0) (drop 0 buffer))
    → (page₂ ≡ put page at (answer_bytes (found_answer found buffer))) × (at + 4 + n ≡ at + length (answer_bytes (found_answer found buffer)))
found-written page page₁ page₂ buffer at n found f h k e g = (
  g ∙ ap₂ (λ x l. put x (at + 4) l) e taken ∙ put-put page at (head_bytes n 0) (take n buffer) (omega (arith, size)) ∙ ap (put page at) shape,
  (let z : length (answer_bytes (found_answer found buffer)) ≡ 4 + n = ap length (sym shape) ∙ length-append (head_bytes n 0) (take n buffer) ∙ ap (λ i. 4 + i) size in omega arith),
)
  where
    size : length (take n buffer) ≡ n
    size = length-take-le n buffer k

    taken : take (n - 0) (drop 0 buffer) ≡ take n buffer
    taken = let z : n - 0 ≡ n = omega arith in ap (λ i. take i buffer) z

    shape : head_bytes n 0 ++ take n buffer ≡ answer_bytes (found_answer found buffer)
    shape = unfold answer_bytes found_answer in rw f refl

pub size-found : (found : Result ℕ Refusal) (n : ℕ) → found ≡ Ok n → found_length found ≡ n
unfolding found_length
size-found found n e = rw e refl

-- how far the bytes of an answer reach
pub found-room : (found : Result ℕ Refusal) (n at long held : ℕ) → found ≡ Ok n → at + 4 + found_length found ≤ long → found_length found ≤ held → found_length found ≤ path_limit
    → (at + 4 + n ≤ long) × (n ≤ held) × (n ≤ path_limit)
found-room found n at long held e h k m = let z = size-found found n e in (omega arith, omega arith, omega arith)

pub copy-room : (page page₁ buffer : List ℕ) (at n : ℕ) → at + 4 + n ≤ length page → n ≤ length buffer → page₁ ≡ put page at (head_bytes n 0)
    → at + 4 + length (take (n - 0) (drop 0 buffer)) ≤ length page₁
copy-room page page₁ buffer at n h k e =
    let z : length page₁ ≡ length page = ap length e ∙ put-size page at (head_bytes n 0) (omega arith) in
    let y : length (take (n - 0) (drop 0 buffer)) ≡ n - 0 = length-take-le (n - 0) buffer (omega arith) in
    omega arith
