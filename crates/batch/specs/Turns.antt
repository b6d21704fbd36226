-- Turn after turn: the loop of a batch, and the contract of the whole. Relies on Requests and on what a call keeps (demands' Consequences).
use Rattle.std.specs.Prelude.{ℕ, suc, ◌+◌, ◌*◌, ◌-◌, ◌/◌, ◌<◌, ◌≤◌, ◌≡◌, refl, List, [], ◌∷◌, ◌++◌, length, take, drop, Some, None, Result, Ok, Err}
use Rattle.std.specs.Prelude as std
use Rattle.image.specs.Prelude.{sym, ap, ap₂, subst, ◌∙◌, append_assoc, arith, length-append, take_at, drop_at}
use Rattle.image.specs.Image.{nodes_of, whole_nodes}
use Rattle.image.specs.Sound.{sound}
use Rattle.image.specs.Calls.{acts, settle, work_per_node, work_long, questions, act_questions}
use Rattle.image.specs.Contract.{node_questions, first_no_on, Meets, Run, stop}
use Rattle.image.specs.Answers.{refusal_number}
use Rattle.image.specs.Batch.{Request, requests_of, call_of, calls_of, answer_bytes, answers_bytes, most_bytes, Stopped, HadRoom, batch_no, zeroed, BatchRuns, BatchMeets}
use Rattle.image.specs.declared.Refusal.{Refusal}
use Rattle.node.specs.Whole.{whole_parts}
use Rattle.octets.specs.Put.{put, put-put, put-size, put-nil}
use Rattle.demands.specs.Consequences.{stays-sound}
use Rattle.laws.specs.Refusals.{refusal-some}
use Rattle.rebuild.specs.Rebuild.{cleared}
use Rattle.questions.specs.Callers.{to_act, plain-settle, plain-number}
use Rattle.finish.specs.Finished.{cleared-size, cleared-later, cleared-again}
use Rattle.questions.specs.Asked.{Fit, Asked, asked-fit, asked-refused}
use Rattle.tree_check.specs.declared.Tally.{Tally}
use Rattle.batch.specs.declared.Batched.{Batched}
use Rattle.requests.specs.Requests.{requests-few}
use Rattle.batch.specs.Requests.{calls-more, bytes-more, run_more, room-more}
use Rattle.batch.specs.Served.{Fresh, Goes, Turned, SoFar, Batching}

-- THE LOOP
pub begins : (s w calls out : List ℕ) → Fresh s w → SoFar s w calls out s w out (requests_of calls) 0 0
unfolding calls_of answers_bytes HadRoom
begins s w calls out f =
    record {
      before = [];
      given = [];
      split = refl;
      count = refl;
      run = stop;
      fresh = f;
      area = refl;
      size = refl;
      bytes = sym (put-nil out 0);
      length_is = refl;
      fits = omega arith;
      had_room = tt;
    }

module _ (s₀ w₀ calls out₀ s w out : List ℕ) (left : List Request) (done written : ℕ) (f : SoFar s₀ w₀ calls out₀ s w out left done written) where
  out-size : length out ≡ length out₀
  out-size = ap length f.bytes ∙ put-size out₀ 0 (answers_bytes f.given) (let a = f.length_is in let b = f.fits in omega arith)

  -- what a turn asks
  pub turn-asks : Fresh s w × (written ≤ length out)
  turn-asks = (subst (Fresh s) (sym f.area) f.fresh, omega (arith, f.fits, out-size))

  module _ (s' w' out' : List ℕ) (left' : List Request) (turn : std.Option ℕ) (t : Turned s w left out written s' w' left' out' turn) where
    went : (behind : ℕ) → turn ≡ Some behind → Goes s w left out written s' w' left' out' behind
    went behind e = subst (Turned s w left out written s' w' left' out') e t

    -- a turn more
    pub goes-on : (behind : ℕ) → turn ≡ Some behind → SoFar s₀ w₀ calls out₀ s' w' out' left' (done + 1) behind
    goes-on behind e =
        record {
          before = f.before ++ (g.request ∷ []);
          given = f.given ++ (g.given ∷ []);
          split = split-more;
          count = length-append f.before (g.request ∷ []) ∙ ap (λ n. n + 1) f.count;
          run = subst (λ cs. Run s₀ cs (f.given ++ (g.given ∷ [])) s') (sym (calls-more w₀ f.before g.request)) (run_more f.run met);
          fresh = fresh-more;
          area = g.kept ∙ f.area;
          size = g.met.size ∙ f.size;
          bytes = bytes-are;
          length_is = length_more;
          fits = (let z = out-size in omega (arith, g.fits));
          had_room = room-more w₀ f.before (length out₀) g.request g.given f.run f.had_room room_left;
        }
      where
        g : Goes s w left out written s' w' left' out' behind
        g = went behind e

        met : Meets s (call_of w₀ g.request) g.given s' g.area
        met = subst (λ v. Meets s (call_of v g.request) g.given s' g.area) f.area g.met

        split-more : requests_of calls ≡ (f.before ++ (g.request ∷ [])) ++ left'
        split-more = f.split ∙ ap (λ l. f.before ++ l) g.first ∙ sym (append_assoc f.before (g.request ∷ []) left')

        fresh-more : Fresh s' w₀
        fresh-more =
            record {
              passed =
                  record {
                    whole = ap whole_nodes g.met.size ∙ f.fresh.passed.whole;
                    long = subst (λ k. work_per_node * nodes_of k ≤ length w₀) (sym g.met.size) f.fresh.passed.long;
                    is_sound = stays-sound g.met f.fresh.passed.is_sound;
                  };
              zero_area = subst (λ k. w₀ ≡ zeroed (nodes_of k) w₀) (sym g.met.size) f.fresh.zero_area;
            }

        room_left : most_bytes g.request ≤ length out₀ - length (answers_bytes f.given)
        room_left = let a = f.length_is in let b = out-size in omega (arith, g.had_room)

        whole_length : length (answers_bytes f.given) + length (answer_bytes g.given) ≤ length out₀
        whole_length = let a = f.length_is in let b = g.ends in let c = g.fits in let z = out-size in omega arith

        front : length (answers_bytes f.given) ≡ 0 + length (answers_bytes f.given)
        front = omega arith

        bytes-are : out' ≡ put out₀ 0 (answers_bytes (f.given ++ (g.given ∷ [])))
        bytes-are =
            g.bytes
            ∙ ap₂ (λ o k. put o k (answer_bytes g.given)) f.bytes (f.length_is ∙ front)
            ∙ put-put out₀ 0 (answers_bytes f.given) (answer_bytes g.given) (omega (arith, whole_length))
            ∙ ap (put out₀ 0) (sym (bytes-more f.given g.given))

        length_more : behind ≡ length (answers_bytes (f.given ++ (g.given ∷ [])))
        length_more =
            g.ends ∙ ap (λ k. k + length (answer_bytes g.given)) f.length_is
            ∙ sym (length-append (answers_bytes f.given) (answer_bytes g.given)) ∙ ap length (sym (bytes-more f.given g.given))

    -- one request less is left, and there were more than those done
    pub moved : (behind : ℕ) → turn ≡ Some behind → (length left' < length left) × (done < length calls)
    moved behind e =
        let g = went behind e in
        let a : length left ≡ suc (length left') = ap length g.first in
        let b = ap length f.split ∙ length-append f.before left in
        let c = requests-few calls in
        (omega arith, omega (arith, f.count))

    -- the end
    pub ends : turn ≡ None → Batching s₀ w₀ calls out₀ (record { number = 0; done = done; written = written }) s' w' out'
    ends e =
        unfold Batching in (
          refl,
          record {
            given = f.given;
            run = subst (λ x. Run s₀ x f.given s') calls_are (subst (Run s₀ (calls_of w₀ f.before) f.given) (sym h.0) f.run);
            size = ap length h.0 ∙ f.size;
            is_sound = ap sound h.0 ∙ f.fresh.passed.is_sound;
            area = h.1 ∙ f.area ∙ zero-first;
            answers = h.2 ∙ f.bytes ∙ put_front;
            length_is = f.length_is;
            fits = f.fits;
            among = (let z = ap length f.split ∙ length-append f.before (left) in let y = f.count in omega arith);
            had_room = subst (λ l. HadRoom l f.given (length out₀)) (sym done-are) f.had_room;
            stopped = subst (λ l. Stopped l (length out₀ - written)) (sym rest-is) why;
          },
        )
      where
        h : (s' ≡ s) × (w' ≡ w) × (out' ≡ out) × Stopped left (length out - written)
        h = subst (Turned s w left out written s' w' left' out') e t

        zero-first : w₀ ≡ zeroed (nodes_of (length s₀)) w₀
        zero-first = subst (λ k. w₀ ≡ zeroed (nodes_of k) w₀) f.size f.fresh.zero_area

        done-are : take done (requests_of calls) ≡ f.before
        done-are = ap (take done) f.split ∙ take_at f.before (left) done f.count

        rest-is : drop done (requests_of calls) ≡ left
        rest-is = ap (drop done) f.split ∙ drop_at f.before (left) done f.count

        calls_are : calls_of w₀ f.before ≡ calls_of (zeroed (nodes_of (length s₀)) w₀) (take done (requests_of calls))
        calls_are = ap₂ (λ x rs. calls_of x rs) zero-first (sym done-are)

        put_front : put out₀ 0 (answers_bytes f.given) ≡ answers_bytes f.given ++ drop written out₀
        put_front = unfold put in let z : 0 + length (answers_bytes f.given) ≡ written = omega (arith, f.length_is) in ap (λ k. answers_bytes f.given ++ drop k out₀) z

        why : Stopped left (length out₀ - written)
        why = subst (λ n. Stopped left (n - written)) out-size h.3

-- THE WHOLE
number_is : (s w : List ℕ) → first_no_on s (acts settle w) ≡ batch_no s w
unfolding first_no_on batch_no node_questions questions act_questions work_long
number_is s w = refl

module _ (s w calls out seen : List ℕ) (r : Result Tally Refusal) (a : Asked s w seen r) where
  pub refused : (q : Refusal) → r ≡ Err q → (k : ℕ) → k ≡ refusal_number q → BatchMeets s w calls out k 0 0 s w out
  refused q e k z =
      let n : batch_no s w ≡ refusal_number q = sym (number_is s w) ∙ asked-refused s w seen q (subst (Asked s w seen) e a) (acts settle w) to_act in
      record {
        answer = z ∙ sym n;
        refuses = λ j h. (refl, refl, refl, refl, refl);
        runs = λ h. absurd (omega (arith, refusal-some q, sym n ∙ h));
      }

  module _ (t : Tally) (e : r ≡ Ok t) where
    fit : Fit s w t seen
    fit = asked-fit s w seen t (subst (Asked s w seen) e a)

    pub area-long : (128 * (length s / 1024) ≤ length w) × (length s / 1024 ≤ 1024)
    unfolding nodes_of
    area-long = (fit.long, (whole_parts (length s) fit.whole).few)

    module _ (n : ℕ) (w₁ : List ℕ) (l : n ≡ length s / 1024) (z : w₁ ≡ cleared n w) where
      cleared-is : w₁ ≡ cleared (nodes_of (length s)) w
      unfolding nodes_of
      cleared-is = z ∙ ap (λ k. cleared k w) l

      again : zeroed (nodes_of (length s)) w₁ ≡ zeroed (nodes_of (length s)) w
      again = cleared-again (nodes_of (length s)) w w₁ (cleared-later (nodes_of (length s)) w w₁ cleared-is)

      pub fresh : Fresh s w₁
      fresh =
          record {
            passed =
                record {
                  whole = fit.whole;
                  long = subst (λ k. work_per_node * nodes_of (length s) ≤ k) (sym (cleared-size (nodes_of (length s)) w w₁ cleared-is fit.long)) fit.long;
                  is_sound = fit.is_sound;
                };
            zero_area = cleared-is ∙ sym again;
          }

      pub accepted : (b : Batched) (s' w' out' : List ℕ) → Batching s w₁ calls out b s' w' out' → BatchMeets s w calls out b.number b.done b.written s' w' out'
      accepted b s' w' out' h =
          let n : batch_no s w ≡ 0 = sym (number_is s w) ∙ plain-number s s w w fit.whole fit.long fit.is_sound settle plain-settle in
          record {
            answer = x.0 ∙ sym n;
            refuses = λ k q. absurd (let y : ◌≡◌ {A = ℕ} 0 (suc k) = sym n ∙ q in omega arith);
            runs = λ q. runs-are x.1;
          }
        where
          x : (b.number ≡ 0) × BatchRuns s w₁ (requests_of calls) out b.done b.written s' w' out'
          x = unfold Batching in h

          runs-are : BatchRuns s w₁ (requests_of calls) out b.done b.written s' w' out' → BatchRuns s w (requests_of calls) out b.done b.written s' w' out'
          runs-are y =
              record {
                given = y.given;
                run = subst (λ v. Run s (calls_of v (take b.done (requests_of calls))) y.given s') again y.run;
                size = y.size;
                is_sound = y.is_sound;
                area = y.area ∙ again;
                answers = y.answers;
                length_is = y.length_is;
                fits = y.fits;
                among = y.among;
                had_room = y.had_room;
                stopped = y.stopped;
              }
