-- What batch answers as one word of 64 bits: the number in the low 8, the calls done in the next 28, the bytes written in the high 28; and
-- that they fit there, since an answer is at least 4 bytes. Relies on the contract of a batch (image) alone.
use Rattle.std.specs.Prelude.{ℕ, zero, suc, ◌/◌, ◌%◌, ◌-◌, ◌≤◌, ◌<◌, ◌≡◌, refl, List, [], ◌∷◌, ◌++◌, Bool, true, false, cond, length, take, drop, leb}
use Rattle.image.specs.Prelude.{sym, ap, ◌∙◌, arith, length-append, length-drop, length-take-le, take_at, drop_at, le-leb, lt-leb, leb-true, leb-false}
use Rattle.image.specs.Calls.{Call, Answer, number, filled, ask, first_no}
use Rattle.image.specs.Contract.{Run, stop, call}
use Rattle.image.specs.Answers.{refusal_limit}
use Rattle.image.specs.Batch.{Request, calls_of, answer_bytes, answers_bytes, requests_of, batch_no, zeroed, BatchRuns, BatchMeets}
use Rattle.image.specs.Image.{nodes_of}

-- A batch for C uses at most 2²⁸ − 1 bytes of the buffer for answers: the bytes that it may use, and those behind.
unfoldable pub answers_room : ℕ → ℕ
answers_room len = cond (leb len 268435455) len 268435455

unfoldable pub answers_used : List ℕ → List ℕ
answers_used out = take (answers_room (length out)) out

unfoldable pub answers_left : List ℕ → List ℕ
answers_left out = drop (answers_room (length out)) out

pub room_whole : (len : ℕ) → len ≤ 268435455 → len ≡ answers_room len
unfolding answers_room
room_whole len h = rw (le-leb len 268435455 h)

pub room-part : (len : ℕ) → 268435455 < len → 268435455 ≡ answers_room len
unfolding answers_room
room-part len h = rw (lt-leb len 268435455 h)

pub room_small : (len r : ℕ) → r ≡ answers_room len → (r ≤ len) × (r ≤ 268435455)
room_small len r e = go (leb len 268435455) refl
  where
    go : (b : Bool) → leb len 268435455 ≡ b → (r ≤ len) × (r ≤ 268435455)
    go true f = let h = leb-true len 268435455 f in let z = room_whole len h in (omega arith, omega arith)
    go false f = let h = leb-false len 268435455 f in let z = room-part len h in (omega arith, omega arith)

-- HOW LARGE THE NUMBERS ARE
two-small : (a b : Bool) → first_no (ask 1 a ∷ ask 2 b ∷ []) ≤ 2
unfolding first_no
two-small true true = omega arith
two-small true false = omega arith
two-small false b = omega arith

number_small : (s work : List ℕ) → batch_no s work ≤ 2
unfolding batch_no
number_small s work = two-small _ _

given-length : {s s' : List ℕ} {cs : List Call} {given : List Answer} → Run s cs given s' → length given ≡ length cs
given-length stop = refl
given-length (call m r) = ap suc (given-length r)

calls-length : (work : List ℕ) (rs : List Request) → length (calls_of work rs) ≡ length rs
unfolding calls_of
calls-length work [] = refl
calls-length work (r ∷ rs) = ap suc (calls-length work rs)

some_bytes : (a : Answer) → 4 ≤ length (answer_bytes a)
unfolding answer_bytes
some_bytes (number k) = omega arith
some_bytes (filled k len buffer) = omega arith

bytes-least : (given : List Answer) → length given ≤ length (answers_bytes given)
unfolding answers_bytes
bytes-least [] = omega arith
bytes-least (a ∷ given) = let h = some_bytes a in let k = bytes-least given in let l = length-append (answer_bytes a) (answers_bytes given) in omega arith

module _ (s work calls out : List ℕ) (n done written : ℕ) (s' work' out' : List ℕ) (m : BatchMeets s work calls out n done written s' work' out') where
  pub batch-small : length out ≤ 268435455 → (n ≤ refusal_limit) × (done ≤ 268435455) × (written ≤ 268435455)
  batch-small h = let k = number_small s work in let a = m.answer in let q = by_number (batch_no s work) refl in (omega arith, q.0, q.1)
    where
      by_number : (k : ℕ) → batch_no s work ≡ k → (done ≤ 268435455) × (written ≤ 268435455)
      by_number zero e =
          let r : BatchRuns s work (requests_of calls) out done written s' work' out' = m.runs e in
          let a : length (take done (requests_of calls)) ≡ done = length-take-le done (requests_of calls) r.among in
          let b = given-length r.run in
          let c = calls-length (zeroed (nodes_of (length s)) work) (take done (requests_of calls)) in
          let d = bytes-least r.given in
          (omega (arith, r.length_is, r.fits), omega (arith, r.fits))
      by_number (suc k) e = let r = m.refuses k e in (omega (arith, r.3), omega (arith, r.4))

-- THE BUFFER
-- a batch keeps its length
batch-out : (s work calls out : List ℕ) (n done written : ℕ) (s' work' out' : List ℕ) → BatchMeets s work calls out n done written s' work' out' → length out' ≡ length out
batch-out s work calls out n done written s' work' out' m = by_number (batch_no s work) refl
  where
    by_number : (k : ℕ) → batch_no s work ≡ k → length out' ≡ length out
    by_number zero e =
        let r : BatchRuns s work (requests_of calls) out done written s' work' out' = m.runs e in
        let d = length-drop written out in
        ap length r.answers ∙ length-append (answers_bytes r.given) (drop written out) ∙ omega (arith, r.length_is, r.fits)
    by_number (suc k) e = ap length (m.refuses k e).2

-- the front that is lent
module _ (out : List ℕ) (room : ℕ) (r : room ≡ answers_room (length out)) where
  front_length : length (take (room - 0) (drop 0 out)) ≡ room
  front_length = let k = room_small (length out) room r in length-take-le (room - 0) out (omega (arith, k.0)) ∙ omega arith

  pub front-small : length (take (room - 0) (drop 0 out)) ≤ 268435455
  front-small = let k = room_small (length out) room r in let l = front_length in omega (arith, k.1)

  -- part' is what came of it
  pub front-meets : (s work calls part' : List ℕ) (n done written word : ℕ) (s' work' : List ℕ)
      → BatchMeets s work calls (take (room - 0) (drop 0 out)) n done written s' work' part'
      → (word % 256 ≡ n) × (word / 256 % 268435456 ≡ done) × (word / 68719476736 ≡ written)
      → BatchMeets s work calls (answers_used out) (word % 256) (word / 256 % 268435456) (word / 68719476736) s' work' (answers_used (part' ++ drop (room - 0) out))
      × (answers_left (part' ++ drop (room - 0) out) ≡ answers_left out)
  unfolding answers_used answers_left
  front-meets s work calls part' n done written word s' work' m (a, b, c) =
      let z : room - 0 ≡ room = omega arith in
      let l : length part' ≡ room = batch-out s work calls (take (room - 0) (drop 0 out)) n done written s' work' part' m ∙ front_length in
      let y = length-append part' (drop (room - 0) out) in
      let x = length-drop (room - 0) out in
      let w = room_small (length out) room r in
      let same : length (part' ++ drop (room - 0) out) ≡ length out = omega (arith, w.0) in
      let k : answers_room (length (part' ++ drop (room - 0) out)) ≡ room = ap answers_room same ∙ sym r in
      let f : take (answers_room (length (part' ++ drop (room - 0) out))) (part' ++ drop (room - 0) out) ≡ part' =
      ap (λ i. take i (part' ++ drop (room - 0) out)) k ∙ take_at part' (drop (room - 0) out) room l in
      let g : take (answers_room (length out)) out ≡ take (room - 0) out = ap (λ i. take i out) (sym r ∙ sym z) in
      let d : drop (answers_room (length (part' ++ drop (room - 0) out))) (part' ++ drop (room - 0) out) ≡ drop (answers_room (length out)) out =
      ap (λ i. drop i (part' ++ drop (room - 0) out)) k ∙ drop_at part' (drop (room - 0) out) room l ∙ ap (λ i. drop i out) (z ∙ r) in
      (rw (a, b, c, f, g) m, d)
