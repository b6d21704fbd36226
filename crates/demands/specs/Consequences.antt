-- What the contract of a call tells at once: its answer's number is its first no, so of an accepted call every question is a yes; a call,
-- and a list of calls, keeps the store's size and its soundness; a get of a path that is there reads it.
-- For the other files of this crate, and for batch and listing. Relies on the contracts (image) and on octets' Order.
use Rattle.std.specs.Prelude.{ℕ, zero, suc, ◌≤◌, ◌≡◌, refl, List, ◌∷◌, ◌++◌, Bool, true, false, length, drop}
use Rattle.image.specs.Prelude.{sym, ap, ◌∙◌, false≢true, Option, none, some, arith, le-leb}
use Rattle.image.specs.Path.{well_formed, value_limit}
use Rattle.image.specs.Table.{Row, find, is_some}
use Rattle.image.specs.Image.{nodes_of, whole_nodes}
use Rattle.image.specs.Sound.{sound, table_of}
use Rattle.image.specs.Calls.{Call, acts, keeps, asks, put, Query, get, next, Question, ask, first_no, work_long, act_questions, query_questions, questions, Answer, filled, number_of, fill, found_by, accepted, refused, answer_at}
use Rattle.image.specs.Contract.{node_questions, first_no_on, Meets, Run, stop, call}
use Rattle.octets.specs.Order.{and_left}

filled-number : (buffer : List ℕ) (found : Option (List ℕ)) → number_of (fill buffer found) ≡ 0
unfolding number_of fill
filled-number buffer none = refl
filled-number buffer (some v) = refl

number_at : (k : ℕ) (c : Call) (t : List Row) → number_of (answer_at k c t) ≡ k
unfolding number_of answer_at accepted refused
number_at zero (acts a work) t = refl
number_at zero (keeps u i work) t = refl
number_at zero (asks q buffer) t = filled-number buffer (found_by q t)
number_at (suc k) (acts a work) t = refl
number_at (suc k) (keeps u i work) t = refl
number_at (suc k) (asks q buffer) t = refl

-- the number in an answer is the first no; of an accepted call there is none
pub number_is : {s s' w' : List ℕ} {c : Call} {a : Answer} → Meets s c a s' w' → number_of a ≡ first_no_on s c
number_is {s} {c = c} m = ap number_of m.answer ∙ number_at (first_no_on s c) c (table_of s)

pub all_yes : {s s' w' : List ℕ} {c : Call} {a : Answer} → Meets s c a s' w' → number_of a ≡ 0 → first_no_on s c ≡ 0
all_yes m e = sym (number_is m) ∙ e

-- a call keeps size and soundness, accepted or not; so does a list of calls
pub stays-sound : {s s' w' : List ℕ} {c : Call} {a : Answer} → Meets s c a s' w' → sound s ≡ true → sound s' ≡ true
stays-sound {s} {s'} {c = c} m g = by_number (first_no_on s c) refl
  where
    by_number : (k : ℕ) → first_no_on s c ≡ k → sound s' ≡ true
    by_number zero e = m.leaves e
    by_number (suc k) e = rw (m.stays k e) g

pub run_sound : {s s' : List ℕ} {cs : List Call} {given : List Answer} → Run s cs given s' → sound s ≡ true → sound s' ≡ true
run_sound stop g = g
run_sound (call m r) g = run_sound r (stays-sound m g)

pub run-size : {s s' : List ℕ} {cs : List Call} {given : List Answer} → Run s cs given s' → length s' ≡ length s
run-size stop = refl
run-size (call m r) = run-size r ∙ m.size

-- where no question is a no, the first is a yes, and no later one is a no
first-yes : (k : ℕ) (b : Bool) (qs : List Question) → first_no (ask (suc k) b ∷ qs) ≡ 0 → b ≡ true
unfolding first_no
first-yes k true qs e = refl
first-yes k false qs e = absurd (omega arith)

later-yes : (k : ℕ) (b : Bool) (qs : List Question) → first_no (ask (suc k) b ∷ qs) ≡ 0 → first_no qs ≡ 0
unfolding first_no
later-yes k true qs e = e
later-yes k false qs e = absurd (omega arith)

-- the store of an accepted call was whole and sound, and its later questions are yes too
module _ (s : List ℕ) (c : Call) (e : first_no_on s c ≡ 0) where
  from-two : first_no (ask 2 (sound s) ∷ node_questions c s ++ questions (nodes_of (length s)) c (table_of s)) ≡ 0
  unfolding first_no_on
  from-two = later-yes 0 _ _ e

  pub was-whole : whole_nodes (length s) ≡ true
  unfolding first_no_on
  was-whole = and_left _ _ (first-yes 0 _ _ e)

  pub was_sound : sound s ≡ true
  was_sound = first-yes 1 _ _ from-two

  pub from-three : first_no (node_questions c s ++ questions (nodes_of (length s)) c (table_of s)) ≡ 0
  from-three = later-yes 1 _ _ from-two

pub put-formed : (s p v work : List ℕ) → first_no_on s (acts (put p v) work) ≡ 0 → well_formed p ≡ true
unfolding node_questions questions act_questions
put-formed s p v work e = first-yes 2 _ _ (from-three s (acts (put p v) work) e)

-- An accepted get or next, with the length len and the buffer out in its answer, found some bytes and laid them in front of the buffer.
pub record Answered (s : List ℕ) (q : Query) (buffer : List ℕ) (len : ℕ) (out : List ℕ) : Type 0 where
  pub bytes : List ℕ
  pub found : found_by q (table_of s) ≡ some bytes
  pub len_is : len ≡ length bytes
  pub out_is : out ≡ bytes ++ drop (length bytes) buffer

pub was-found : (s : List ℕ) (q : Query) (buffer : List ℕ) → first_no_on s (asks q buffer) ≡ 0 → is_some (found_by q (table_of s)) ≡ true
unfolding node_questions questions query_questions found_by
was-found s (get p) buffer e = first-yes 7 _ _ (later-yes 4 _ _ (later-yes 2 _ _ (from-three s (asks (get p) buffer) e)))
was-found s (next p q) buffer e = first-yes 7 _ _ (later-yes 4 _ _ (later-yes 2 _ _ (from-three s (asks (next p q) buffer) e)))

pub query-answered : {s s' w' buffer out : List ℕ} {q : Query} {len : ℕ} → Meets s (asks q buffer) (filled 0 len out) s' w' → Answered s q buffer len out
unfolding number_of answer_at accepted is_some fill
query-answered {s} {buffer = buffer} {out = out} {q = q} {len = len} m = by-found (found_by q (table_of s)) refl
  where
    no-no : first_no_on s (asks q buffer) ≡ 0
    no-no = all_yes m refl

    by-found : (o : Option (List ℕ)) → found_by q (table_of s) ≡ o → Answered s q buffer len out
    by-found none f = absurd (false≢true (rw f at (was-found s q buffer no-no)))
    by-found (some v) f =
        let same_answer : filled 0 len out ≡ filled 0 (length v) (v ++ drop (length v) buffer) = m.answer ∙ rw (no-no, f) in
        record { bytes = v; found = f; len_is = cc; out_is = cc }

-- a get of a path that is there is accepted, and reads it
get-yes : (s p v buffer : List ℕ) → whole_nodes (length s) ≡ true → sound s ≡ true → well_formed p ≡ true → value_limit ≤ length buffer
    → find p (table_of s) ≡ some v → first_no_on s (asks (get p) buffer) ≡ 0
unfolding first_no_on first_no work_long node_questions questions query_questions is_some
get-yes s p v buffer w g f l e = rw (w, g, f, le-leb value_limit (length buffer) l, e)

pub get-reads : {s s' w' p buffer : List ℕ} {a : Answer} (v : List ℕ) → Meets s (asks (get p) buffer) a s' w'
    → whole_nodes (length s) ≡ true → sound s ≡ true → well_formed p ≡ true → value_limit ≤ length buffer
    → find p (table_of s) ≡ some v → a ≡ filled 0 (length v) (v ++ drop (length v) buffer)
unfolding answer_at accepted found_by fill
get-reads {s} {p = p} {buffer = buffer} v m w g f l e = m.answer ∙ rw (get-yes s p v buffer w g f l e, e)
