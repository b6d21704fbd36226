-- get and next, question by question: what each way out of the code answers is what the contract says. One law for both, over the query.
use Rattle.std.specs.Prelude.{ℕ, zero, suc, ◌+◌, ◌<◌, ◌≤◌, ◌≡◌, refl, List, [], ◌∷◌, Bool, true, false, ◌&&◌, length, leb, Result, Ok, Err}
use Rattle.image.specs.Prelude.{sym, ap₂, ◌∙◌, and-true, none, some, arith, le-leb, lt-leb}
use Rattle.image.specs.Path.{well_formed, path_or_empty, value_limit, path_limit}
use Rattle.image.specs.Table.{Row, is_some}
use Rattle.image.specs.Image.{nodes_of, whole_nodes}
use Rattle.image.specs.Sound.{sound, table_of}
use Rattle.image.specs.Calls.{asks, Query, get, next, Answer, filled, ask, first_no, work_long, questions, query_questions, found_by, fill, accepted, refused, answer_at, table_at, table_after}
use Rattle.image.specs.Contract.{node_questions, first_no_on, Besides, work_at, Meets, check_no}
use Rattle.image.specs.Answers.{refusal_number, outcome_number, found_answer}
use Rattle.image.specs.declared.Refusal.{Refusal}
use Rattle.laws.specs.Refusals.{refusal-some}
use Rattle.octets.specs.Put.{put}

-- question 3 of a query: its paths are well formed; next's may be empty
unfoldable pub paths_fit : Query → Bool
paths_fit (get p) = well_formed p
paths_fit (next p q) = path_or_empty p && path_or_empty q

-- question 5: how long its buffer must be
unfoldable pub buffer_limit : Query → ℕ
buffer_limit (get p) = value_limit
buffer_limit (next p q) = path_limit

questions-are : (q : Query) (buffer : List ℕ) (t : List Row)
    → query_questions q buffer t ≡ ask 3 (paths_fit q) ∷ ask 5 (leb (buffer_limit q) (length buffer)) ∷ ask 8 (is_some (found_by q t)) ∷ []
unfolding query_questions paths_fit buffer_limit found_by
questions-are (get p) buffer t = refl
questions-are (next p q) buffer t = refl

pub number_is : (s : List ℕ) (q : Query) (buffer : List ℕ)
    → first_no_on s (asks q buffer)
    ≡ first_no (ask 1 (whole_nodes (length s)) ∷ ask 2 (sound s) ∷ ask 3 (paths_fit q) ∷ ask 5 (leb (buffer_limit q) (length buffer)) ∷ ask 8 (is_some (found_by q (table_of s))) ∷ [])
unfolding first_no_on work_long node_questions questions
number_is s q buffer =
    ap₂ (λ x qs. first_no (ask 1 x ∷ ask 2 (sound s) ∷ qs)) (and-true (whole_nodes (length s))) (questions-are q buffer (table_of s))

-- of the buffer only the length is asked
pub number-by-length : (s : List ℕ) (q : Query) (buffer other : List ℕ) → length buffer ≡ length other → first_no_on s (asks q buffer) ≡ first_no_on s (asks q other)
number-by-length s q buffer other e = number_is s q buffer ∙ rw e (sym (number_is s q other))

-- a query leaves the store, and is lent no work area: its answer is all that there is to show
pub answer-meets : (s : List ℕ) (q : Query) (buffer : List ℕ) (a : Answer) → a ≡ answer_at (first_no_on s (asks q buffer)) (asks q buffer) (table_of s)
    → Meets s (asks q buffer) a s []
unfolding Besides
answer-meets s q buffer a e =
    record {
      size = refl;
      answer = e;
      work = no-work (first_no_on s (asks q buffer));
      table = no_change (first_no_on s (asks q buffer));
      stays = λ k h. refl;
      leaves = λ h. is_sound (whole_nodes (length s)) refl (sound s) refl h;
      also = λ h. refl;
    }
  where
    no-work : (k : ℕ) → [] ≡ work_at k (nodes_of (length s)) (asks q buffer)
    no-work zero = unfold work_at in refl
    no-work (suc k) = unfold work_at in refl

    no_change : (k : ℕ) → table_of s ≡ table_at k (asks q buffer) (table_of s)
    no_change zero = unfold table_at table_after in refl
    no_change (suc k) = unfold table_at in refl

    is_sound : (w : Bool) → whole_nodes (length s) ≡ w → (b : Bool) → sound s ≡ b → first_no_on s (asks q buffer) ≡ 0 → sound s ≡ true
    is_sound true e true f h = f
    is_sound true e false f h =
        let z : ◌≡◌ {A = ℕ} 2 0 = sym (number_is s q buffer ∙ rw (e, f) (unfold first_no in refl)) ∙ h in absurd (omega arith)
    is_sound false e b f h =
        let z : ◌≡◌ {A = ℕ} 1 0 = sym (number_is s q buffer ∙ rw e (unfold first_no in refl)) ∙ h in absurd (omega arith)

refusal-answer : (s : List ℕ) (q : Query) (buffer : List ℕ) (r : Refusal) (k : ℕ) → refusal_number r ≡ suc k → first_no_on s (asks q buffer) ≡ suc k
    → Meets s (asks q buffer) (found_answer (Err r) buffer) s []
unfolding found_answer answer_at refused
refusal-answer s q buffer r k e f = answer-meets s q buffer (filled (refusal_number r) 0 buffer) (rw (e, f) refl)

module _ (s : List ℕ) (q : Query) (buffer : List ℕ) where
  -- question 1 or 2 got a no
  pub unfit-store : (r : Refusal) → outcome_number (Err r) ≡ check_no s → Meets s (asks q buffer) (found_answer (Err r) buffer) s []
  unfolding check_no first_no outcome_number
  unfit-store r e = by_questions (whole_nodes (length s)) refl (sound s) refl
    where
      by_questions : (w : Bool) → whole_nodes (length s) ≡ w → (b : Bool) → sound s ≡ b → Meets s (asks q buffer) (found_answer (Err r) buffer) s []
      by_questions false f b g = refusal-answer s q buffer r 0 (e ∙ rw f refl) (number_is s q buffer ∙ rw f refl)
      by_questions true f false g = refusal-answer s q buffer r 1 (e ∙ rw (f, g) refl) (number_is s q buffer ∙ rw (f, g) refl)
      by_questions true f true g = let z : refusal_number r ≡ 0 = e ∙ rw (f, g) refl in absurd (omega (arith, refusal-some r))

  module _ (whole : whole_nodes (length s) ≡ true) (good : sound s ≡ true) where
    pub malformed-path : (z : Bool) → z ≡ paths_fit q → z ≡ false → Meets s (asks q buffer) (found_answer (Err Refusal.Malformed) buffer) s []
    unfolding first_no refusal_number
    malformed-path z e f =
        refusal-answer s q buffer Refusal.Malformed 2 refl (number_is s q buffer ∙ rw (whole, good, sym e ∙ f) refl)

    module _ (z : Bool) (z-is : z ≡ paths_fit q) (z-yes : z ≡ true) where
      pub short-buffer : length buffer < buffer_limit q → Meets s (asks q buffer) (found_answer (Err Refusal.ShortBuffer) buffer) s []
      unfolding first_no refusal_number
      short-buffer h =
          refusal-answer s q buffer Refusal.ShortBuffer 4 refl
          (number_is s q buffer ∙ rw (whole, good, sym z-is ∙ z-yes, lt-leb (buffer_limit q) (length buffer) h) refl)

      module _ (room : buffer_limit q ≤ length buffer) where
        pub nothing-there : found_by q (table_of s) ≡ none → Meets s (asks q buffer) (found_answer (Err Refusal.Absent) buffer) s []
        unfolding first_no refusal_number is_some
        nothing-there e =
            refusal-answer s q buffer Refusal.Absent 7 refl
            (number_is s q buffer ∙ rw (whole, good, sym z-is ∙ z-yes, le-leb (buffer_limit q) (length buffer) room, e) refl)

        -- the bytes v were found, and put at the front of the buffer
        pub something-there : (v : List ℕ) (n : ℕ) (buffer' : List ℕ) → found_by q (table_of s) ≡ some v → n ≡ length v → buffer' ≡ put buffer 0 v
            → Meets s (asks q buffer) (found_answer (Ok n) buffer') s []
        unfolding first_no is_some found_answer answer_at accepted fill put
        something-there v n buffer' e f g =
            let no : first_no_on s (asks q buffer) ≡ 0 = number_is s q buffer ∙ rw (whole, good, sym z-is ∙ z-yes, le-leb (buffer_limit q) (length buffer) room, e) refl in
            let skip : 0 + length v ≡ length v = omega arith in
            answer-meets s q buffer (filled 0 n buffer') (rw (no, e, f, g, skip) refl)

-- how many bytes an answer says are at the front of the buffer: never more than a path has, so that the number fits any word
unfoldable pub found_length : Result ℕ Refusal → ℕ
found_length (Ok n) = n
found_length (Err r) = 0

pub refused-short : (r : Refusal) (most : ℕ) → found_length (Err r) ≤ most
unfolding found_length
refused-short r most = omega arith

pub found-short : (n most : ℕ) → n ≤ most → found_length (Ok n) ≤ most
unfolding found_length
found-short n most h = h
