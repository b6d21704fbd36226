-- The calls of a batch: what each part of the code leaves, from the contracts of the calls' own parts.
-- Relies on questions (Acted), requests (what was read) and image's Batch.
use Rattle.std.specs.Prelude.{ℕ, zero, suc, ◌+◌, ◌-◌, ◌<◌, ◌≤◌, ◌≡◌, refl, List, [], ◌∷◌, ◌++◌, length, take, Result, Ok, Err, Some, None}
use Rattle.std.specs.Borrow.{Bor}
use Rattle.image.specs.Prelude.{sym, subst, ◌∙◌, arith, length-append, length-take}
use Rattle.image.specs.Bytes.{u16_bytes}
use Rattle.image.specs.Path.{path_limit, value_limit}
use Rattle.image.specs.Image.{nodes_of}
use Rattle.image.specs.Calls as calls
use Rattle.image.specs.Calls.{Act, Upkeep, acts, keeps, asks}
use Rattle.image.specs.Contract.{first_no_on, work_at, Meets}
use Rattle.image.specs.Answers.{outcome_answer, found_answer}
use Rattle.image.specs.Batch.{Request, acting, keeping, call_of, fresh_buffer, answer_bytes, most_bytes, Stopped}
use Rattle.image.specs.declared.Refusal.{Refusal}
use Rattle.octets.specs.Put.{put}
use Rattle.query.specs.Asked.{found_length}
use Rattle.questions.specs.Acted.{Acted, acted-kept, acted-zero}
use Rattle.requests.specs.declared.Change.{Change}
use Rattle.requests.specs.declared.Query.{Query}
use Rattle.requests.specs.declared.Piece.{Piece}
use Rattle.requests.specs.Pieces.{change_is, query_is, request_is, query_most}
use Rattle.batch.specs.Served.{Fresh, Served, Written, Turned}

-- A CALL MADE
module _ (s w s' w' : List ℕ) (f : Fresh s w) (r : Result (Unit {0}) Refusal) where
  pub served-act : (a : Act) → Acted s (acts a w) r s' w w' → Served s w (acting a) r s' w'
  unfolding call_of
  served-act a h = record { met = acted-zero s (acts a w) r s' w w' f.passed h f.zero_area; area = acted-kept s (acts a w) r s' w w' f.passed h f.zero_area }

  pub served-meets : (a : Act) → Meets s (acts a w) (outcome_answer r) s' w' → Served s w (acting a) r s' w'
  unfolding call_of
  served-meets a m = record { met = subst (Meets s (acts a w) (outcome_answer r) s') kept m; area = kept }
    where
      by_number : (k : ℕ) → work_at k (nodes_of (length s)) (acts a w) ≡ w
      by_number zero = unfold work_at in sym f.zero_area
      by_number (suc k) = unfold work_at in refl

      kept : w' ≡ w
      kept = m.work ∙ by_number (first_no_on s (acts a w))

  pub served-keeps : (u : Upkeep) (i : ℕ) → Meets s (keeps u i w) (outcome_answer r) s' w' → Served s w (keeping u i) r s' w'
  unfolding call_of
  served-keeps u i m = record { met = subst (Meets s (keeps u i w) (outcome_answer r) s') kept m; area = kept }
    where
      by_number : (k : ℕ) → work_at k (nodes_of (length s)) (keeps u i w) ≡ w
      by_number zero = unfold work_at in sym f.zero_area
      by_number (suc k) = unfold work_at in refl

      kept : w' ≡ w
      kept = m.work ∙ by_number (first_no_on s (keeps u i w))

-- A QUERY ANSWERED
bytes-short : (found : Result ℕ Refusal) (buffer : List ℕ) → length (answer_bytes (found_answer found buffer)) ≤ 4 + found_length found
unfolding answer_bytes found_answer found_length
bytes-short (Ok n) buffer = let a = length-append (u16_bytes n ++ u16_bytes 0) (take n buffer) in let t = length-take n buffer in omega arith
bytes-short (Err q) buffer = omega arith

-- what a query's part of the code answers: its contract, and a length that leaves it short enough
pub record Found (s : List ℕ) (q : Query) (found : Result ℕ Refusal) (buffer : List ℕ) : Type 0 where
  pub met : (w : List ℕ) → Meets s (call_of w (query_is q)) (found_answer found buffer) s []
  pub short : 4 + found_length found ≤ query_most q
  pub size : length buffer ≡ 64
  pub fits : found_length found ≤ path_limit

module _ (s buffer : List ℕ) (found : Result ℕ Refusal) (q : Query) (size : length buffer ≡ 64) where
  pub got : (p : Bor (List ℕ)) → q ≡ Query.Get p → found_length found ≤ value_limit → Meets s (asks (calls.get p.now) fresh_buffer) (found_answer found buffer) s [] → Found s q found buffer
  got p e short m = subst (λ x. Found s x found buffer) (sym e) (record { met = λ w. unfold call_of in m; short = (unfold query_most in omega arith); size = size; fits = omega arith })

  pub stepped : (p p' : Bor (List ℕ)) → q ≡ Query.Next p p' → found_length found ≤ path_limit → Meets s (asks (calls.next p.now p'.now) fresh_buffer) (found_answer found buffer) s []
      → Found s q found buffer
  stepped p p' e short m = subst (λ x. Found s x found buffer) (sym e) (record { met = λ w. unfold call_of in m; short = (unfold query_most in omega arith); size = size; fits = omega arith })

-- what write_found asks
pub found-asks : (s buffer : List ℕ) (found : Result ℕ Refusal) (q : Query) (at long : ℕ) → Found s q found buffer → at + query_most q ≤ long
    → (at + 4 + found_length found ≤ long) × (found_length found ≤ length buffer) × (found_length found ≤ path_limit)
found-asks s buffer found q at long f room = (omega (arith, f.short), omega (arith, f.fits, f.size), f.fits)

pub answered : (s out out' buffer : List ℕ) (at end : ℕ) (found : Result ℕ Refusal) (q : Query) → Found s q found buffer → at + query_most q ≤ length out
    → (out' ≡ put out at (answer_bytes (found_answer found buffer))) × (end ≡ at + length (answer_bytes (found_answer found buffer)))
    → Written s (query_is q) out at out' end
answered s out out' buffer at end found q f room written =
    record {
      given = found_answer found buffer;
      met = f.met;
      bytes = written.0;
      ends = written.1;
      fits = (let y = bytes-short found buffer in omega (arith, written.1, f.short));
    }

-- A TURN
most-change : (c : Change) → most_bytes (change_is c) ≡ 4
unfolding most_bytes
most-change (Change.Put p v) = refl
most-change (Change.Drop p) = refl
most-change (Change.Clear p) = refl
most-change (Change.Move p q) = refl
most-change Change.Settle = refl
most-change Change.Tidy = refl
most-change (Change.Flush i) = refl
most-change (Change.Heal i) = refl

most-query : (q : Query) → most_bytes (query_is q) ≡ query_most q
unfolding most_bytes query_most
most-query (Query.Get p) = refl
most-query (Query.Next p q) = refl

-- the request of a piece, once it is known which
pub first-is : (left left' : List Request) (p x : Piece) → left ≡ request_is p ∷ left' → p ≡ x → left ≡ request_is x ∷ left'
first-is left left' p x e h = subst (λ y. left ≡ request_is y ∷ left') h e

module _ (s w out : List ℕ) (written : ℕ) (left left' : List Request) where
  -- nothing is left: the batch stops
  pub turn-none : left ≡ [] → Turned s w left out written s w left' out None
  unfolding Stopped
  turn-none e = (refl, refl, refl, subst (λ l. Stopped l (length out - written)) (sym e) tt)

  -- the answer of the next request might not fit
  full : (r : Request) → left ≡ r ∷ left' → length out - written < most_bytes r → Turned s w left out written s w left' out None
  unfolding Stopped
  full r e h = (refl, refl, refl, subst (λ l. Stopped l (length out - written)) (sym e) h)

  pub turn-full : (c : Change) → left ≡ change_is c ∷ left' → length out - written < 4 → Turned s w left out written s w left' out None
  turn-full c e h = full (change_is c) e (let z = most-change c in omega arith)

  pub turn-narrow : (q : Query) → left ≡ query_is q ∷ left' → length out - written < query_most q → Turned s w left out written s w left' out None
  turn-narrow q e h = full (query_is q) e (let z = most-query q in omega arith)

  pub turn-change : (c : Change) → left ≡ change_is c ∷ left' → 4 ≤ length out - written → (o : Result (Unit {0}) Refusal) (s' w' out' : List ℕ) (end : ℕ)
      → Served s w (change_is c) o s' w'
      → (out' ≡ put out written (answer_bytes (outcome_answer o))) × (end ≡ written + length (answer_bytes (outcome_answer o)))
      → Turned s w left out written s' w' left' out' (Some end)
  turn-change c e h o s' w' out' end m x =
      let four : length (answer_bytes (outcome_answer o)) ≡ 4 = unfold answer_bytes outcome_answer in refl in
      record {
        request = change_is c;
        given = outcome_answer o;
        area = w;
        first = e;
        met = m.met;
        kept = m.area;
        had_room = (let z = most-change c in omega arith);
        bytes = x.0;
        ends = x.1;
        fits = omega (arith, x.1);
      }

  pub turn-query : (q : Query) → left ≡ query_is q ∷ left' → query_most q ≤ length out - written → (out' : List ℕ) (end : ℕ) → Written s (query_is q) out written out' end
      → Turned s w left out written s w left' out' (Some end)
  turn-query q e h out' end m =
      record {
        request = query_is q;
        given = m.given;
        area = [];
        first = e;
        met = m.met w;
        kept = refl;
        had_room = (let z = most-query q in omega arith);
        bytes = m.bytes;
        ends = m.ends;
        fits = m.fits;
      }
