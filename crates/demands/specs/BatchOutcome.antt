-- The contract of a batch fixes its outcome: two outcomes of one input that both meet it have the same number, calls done, bytes written, work
-- area and table, and the same answers but for what flush and heal answer, which the layout of the nodes decides and no contract fixes.
-- Relies on the contract of a batch (image), on Demand and on Batches.
use Rattle.std.specs.Prelude.{ℕ, zero, suc, ◌+◌, ◌-◌, ◌≤◌, ◌≡◌, refl, List, [], ◌∷◌, ◌++◌, true, length, take, drop}
use Rattle.image.specs.Prelude.{sym, ap, ap₂, subst, ◌∙◌, arith, length-append}
use Rattle.image.specs.Table.{Row}
use Rattle.image.specs.Image.{nodes_of}
use Rattle.image.specs.Sound.{table_of}
use Rattle.image.specs.Calls.{acts, keeps, asks, put, Upkeep, get, Answer, accepted, refused, answer_at, table_at}
use Rattle.image.specs.PlainMap.{plain_first_no, table_on, answers_on}
use Rattle.image.specs.Contract.{node_questions, Meets, Run, stop, call}
use Rattle.image.specs.Batch.{Request, acting, keeping, asking, requests_of, call_of, calls_of, fresh_buffer, answer_bytes, answers_bytes, most_bytes, Stopped, HadRoom, batch_no, zeroed, BatchRuns, BatchMeets}
use Rattle.demands.specs.Demand.{reported_of, Represents, no-node-answer, goes-on, run-answers, run-goes}
use Rattle.demands.specs.Batches.{calls_done, no_upkeep, batch-starts, all-reported}

-- THE LENGTH OF AN ANSWER
-- an answer of flush or heal takes four bytes, whatever its number
upkeep-four : (k : ℕ) (u : Upkeep) (i : ℕ) (work : List ℕ) (t : List Row) → length (answer_bytes (answer_at k (keeps u i work) t)) ≡ 4
unfolding answer_bytes answer_at accepted refused
upkeep-four zero u i work t = refl
upkeep-four (suc k) u i work t = refl

-- two stores that go with one plain map give answers of one length
module _ (n : ℕ) (t : List Row) (s₁ s₂ : List ℕ) (g₁ : Represents n t s₁) (g₂ : Represents n t s₂) where
  same_length : (work : List ℕ) (r : Request) {a₁ a₂ : Answer} {s₁' s₂' w₁ w₂ : List ℕ} → Meets s₁ (call_of work r) a₁ s₁' w₁ → Meets s₂ (call_of work r) a₂ s₂' w₂
      → length (answer_bytes a₁) ≡ length (answer_bytes a₂)
  unfolding call_of node_questions
  same_length work (acting x) m₁ m₂ =
      ap (λ a. length (answer_bytes a)) (no-node-answer n t s₁ g₁ (acts x work) m₁ refl ∙ sym (no-node-answer n t s₂ g₂ (acts x work) m₂ refl))
  same_length work (keeping u i) m₁ m₂ =
      ap (λ a. length (answer_bytes a)) m₁.answer ∙ upkeep-four _ u i work (table_of s₁)
      ∙ sym (ap (λ a. length (answer_bytes a)) m₂.answer ∙ upkeep-four _ u i work (table_of s₂))
  same_length work (asking q) m₁ m₂ =
      ap (λ a. length (answer_bytes a)) (no-node-answer n t s₁ g₁ (asks q fresh_buffer) m₁ refl ∙ sym (no-node-answer n t s₂ g₂ (asks q fresh_buffer) m₂ refl))

-- HOW FAR A BATCH GOES
-- the room that is left behind an answer, and behind the later ones
pub room-behind : (room : ℕ) (a : Answer) (given : List Answer) → room - length (answers_bytes (a ∷ given)) ≡ room - length (answer_bytes a) - length (answers_bytes given)
unfolding answers_bytes
room-behind room a given = let z = length-append (answer_bytes a) (answers_bytes given) in omega arith

-- two runs of the first requests, from stores that go with one plain map: how many are done, and how many bytes their answers take
record SameReach (done₁ done₂ : ℕ) (given₁ given₂ : List Answer) : Type 0 where
  pub calls : done₁ ≡ done₂
  pub bytes : length (answers_bytes given₁) ≡ length (answers_bytes given₂)

same-reach : (n : ℕ) (t : List Row) (work : List ℕ) (rs : List Request) (done₁ done₂ room₁ room₂ : ℕ) {s₁ s₂ s₁' s₂' : List ℕ} {given₁ given₂ : List Answer}
    → Represents n t s₁ → Represents n t s₂ → room₁ ≡ room₂
    → Run s₁ (calls_of work (take done₁ rs)) given₁ s₁' → Run s₂ (calls_of work (take done₂ rs)) given₂ s₂'
    → done₁ ≤ length rs → done₂ ≤ length rs
    → HadRoom (take done₁ rs) given₁ room₁ → HadRoom (take done₂ rs) given₂ room₂
    → Stopped (drop done₁ rs) (room₁ - length (answers_bytes given₁)) → Stopped (drop done₂ rs) (room₂ - length (answers_bytes given₂))
    → SameReach done₁ done₂ given₁ given₂
unfolding calls_of HadRoom Stopped answers_bytes
same-reach n t work [] zero zero room₁ room₂ g₁ g₂ e stop stop k₁ k₂ h₁ h₂ q₁ q₂ = record { calls = refl; bytes = refl }
same-reach n t work [] zero (suc d₂) room₁ room₂ g₁ g₂ e r₁ r₂ k₁ k₂ h₁ h₂ q₁ q₂ = absurd (omega arith)
same-reach n t work [] (suc d₁) done₂ room₁ room₂ g₁ g₂ e r₁ r₂ k₁ k₂ h₁ h₂ q₁ q₂ = absurd (omega arith)
same-reach n t work (r ∷ rs) zero zero room₁ room₂ g₁ g₂ e stop stop k₁ k₂ h₁ h₂ q₁ q₂ = record { calls = refl; bytes = refl }
same-reach n t work (r ∷ rs) zero (suc d₂) room₁ room₂ g₁ g₂ e stop (call m₂ r₂) k₁ k₂ h₁ h₂ q₁ q₂ = absurd (omega (arith, h₂.0, q₁))
same-reach n t work (r ∷ rs) (suc d₁) zero room₁ room₂ g₁ g₂ e (call m₁ r₁) stop k₁ k₂ h₁ h₂ q₁ q₂ = absurd (omega (arith, h₁.0, q₂))
same-reach n t work (r ∷ rs) (suc d₁) (suc d₂) room₁ room₂ {s₁} {s₂} g₁ g₂ e (call {a = a₁} {later = later₁} m₁ r₁) (call {a = a₂} {later = later₂} m₂ r₂) k₁ k₂ h₁ h₂ q₁ q₂ =
    let l : length (answer_bytes a₁) ≡ length (answer_bytes a₂) = same_length n t s₁ s₂ g₁ g₂ work r m₁ m₂ in
    let x : SameReach d₁ d₂ later₁ later₂ =
    same-reach n (table_at (plain_first_no n (call_of work r) t) (call_of work r) t) work rs d₁ d₂ (room₁ - length (answer_bytes a₁)) (room₂ - length (answer_bytes a₂))
    (goes-on n t s₁ g₁ (call_of work r) m₁) (goes-on n t s₂ g₂ (call_of work r) m₂) (ap₂ (λ i j. i - j) e l) r₁ r₂ (omega arith) (omega arith) h₁.1 h₂.1
    (subst (Stopped (drop d₁ rs)) (room-behind room₁ a₁ later₁) q₁) (subst (Stopped (drop d₂ rs)) (room-behind room₂ a₂ later₂) q₂) in
    record {
      calls = ap suc x.calls;
      bytes = length-append (answer_bytes a₁) (answers_bytes later₁) ∙ ap₂ (λ i j. i + j) l x.bytes ∙ sym (length-append (answer_bytes a₂) (answers_bytes later₂));
    }

-- THE OUTCOME
-- two accepted batches of one input
module _ {s work out : List ℕ} {done₁ written₁ done₂ written₂ : ℕ} {s₁ work₁ out₁ s₂ work₂ out₂ : List ℕ} (calls : List ℕ) (start : Represents (nodes_of (length s)) (table_of s) s)
    (r₁ : BatchRuns s work (requests_of calls) out done₁ written₁ s₁ work₁ out₁) (r₂ : BatchRuns s work (requests_of calls) out done₂ written₂ s₂ work₂ out₂) where
  both-reach : SameReach done₁ done₂ r₁.given r₂.given
  both-reach =
      same-reach (nodes_of (length s)) (table_of s) (zeroed (nodes_of (length s)) work) (requests_of calls) done₁ done₂ (length out) (length out)
      start start refl r₁.run r₂.run r₁.among r₂.among r₁.had_room r₂.had_room
      (rw r₁.length_is at r₁.stopped) (rw r₂.length_is at r₂.stopped)

  both-write : written₁ ≡ written₂
  both-write = r₁.length_is ∙ both-reach.bytes ∙ sym r₂.length_is

  both-mean : table_of s₁ ≡ table_of s₂
  both-mean =
      (run-goes (nodes_of (length s)) (table_of s) start r₁.run).table
      ∙ ap (λ done. table_on (nodes_of (length s)) (calls_done s work calls done) (table_of s)) both-reach.calls
      ∙ sym (run-goes (nodes_of (length s)) (table_of s) start r₂.run).table

  both-answer : reported_of (calls_done s work calls done₁) r₁.given ≡ reported_of (calls_done s work calls done₂) r₂.given
  both-answer =
      run-answers (nodes_of (length s)) (table_of s) start r₁.run
      ∙ ap (λ done. answers_on (nodes_of (length s)) (calls_done s work calls done) (table_of s)) both-reach.calls
      ∙ sym (run-answers (nodes_of (length s)) (table_of s) start r₂.run)

  both-fill : no_upkeep (take done₁ (requests_of calls)) ≡ true → out₁ ≡ out₂
  both-fill e =
      let given-alike : r₁.given ≡ r₂.given =
      sym (all-reported _ (take done₁ (requests_of calls)) e r₁.run) ∙ both-answer
      ∙ all-reported _ (take done₂ (requests_of calls)) (rw both-reach.calls at e) r₂.run in
      r₁.answers ∙ ap₂ (λ given written. answers_bytes given ++ drop written out) given-alike both-write ∙ sym r₂.answers

-- two outcomes of one input, accepted or refused
module _ {s work calls out : List ℕ} {no₁ done₁ written₁ no₂ done₂ written₂ : ℕ} {s₁ work₁ out₁ s₂ work₂ out₂ : List ℕ}
    (m₁ : BatchMeets s work calls out no₁ done₁ written₁ s₁ work₁ out₁) (m₂ : BatchMeets s work calls out no₂ done₂ written₂ s₂ work₂ out₂) where
  pub record SameOutcome : Type 0 where
    pub number : no₁ ≡ no₂
    pub done : done₁ ≡ done₂
    pub written : written₁ ≡ written₂
    pub area : work₁ ≡ work₂
    pub table : table_of s₁ ≡ table_of s₂
    -- the answers of an accepted batch, but for what flush and heal answer
    pub answers : (fit : batch_no s work ≡ 0)
        → reported_of (calls_done s work calls done₁) (m₁.runs fit).given ≡ reported_of (calls_done s work calls done₂) (m₂.runs fit).given
    -- where neither is among the calls done: every byte of the answers' buffer
    pub bytes : no_upkeep (take done₁ (requests_of calls)) ≡ true → out₁ ≡ out₂

  pub batch-determined : SameOutcome
  batch-determined = by_number (batch_no s work) refl
    where
      by_number : (k : ℕ) → batch_no s work ≡ k → SameOutcome
      by_number zero fit =
          let start : Represents (nodes_of (length s)) (table_of s) s = batch-starts s work fit in
          record {
            number = m₁.answer ∙ sym m₂.answer;
            done = (both-reach calls start (m₁.runs fit) (m₂.runs fit)).calls;
            written = both-write calls start (m₁.runs fit) (m₂.runs fit);
            area = (m₁.runs fit).area ∙ sym (m₂.runs fit).area;
            table = both-mean calls start (m₁.runs fit) (m₂.runs fit);
            answers = λ y. both-answer calls start (m₁.runs y) (m₂.runs y);
            bytes = both-fill calls start (m₁.runs fit) (m₂.runs fit);
          }
      by_number (suc k) e =
          let x = m₁.refuses k e in
          let y = m₂.refuses k e in
          record {
            number = m₁.answer ∙ sym m₂.answer;
            done = x.3 ∙ sym y.3;
            written = x.4 ∙ sym y.4;
            area = x.1 ∙ sym y.1;
            table = ap table_of (x.0 ∙ sym y.0);
            answers = λ fit. absurd (let z : ◌≡◌ {A = ℕ} 0 (suc k) = sym fit ∙ e in omega arith);
            bytes = λ u. x.2 ∙ sym y.2;
          }

-- AN EXAMPLE
-- A get and a put, with ten bytes for their answers. The get's answer might take 4 + value_limit bytes, so the batch stops in front of it, also where
-- the path is absent and its answer would take four: that no call is done meets the contract, and nothing else does.
module _ (p q v s work calls out : List ℕ) (reads : requests_of calls ≡ asking (get p) ∷ acting (put q v) ∷ []) (short : length out ≡ 10) (fit : batch_no s work ≡ 0) where
  pub none_done : BatchMeets s work calls out 0 0 0 s (zeroed (nodes_of (length s)) work) out
  unfolding calls_of answers_bytes HadRoom Stopped most_bytes
  none_done =
      record {
        answer = sym fit;
        refuses = λ k e. absurd (let z : ◌≡◌ {A = ℕ} 0 (suc k) = sym fit ∙ e in omega arith);
        runs = λ y. stopped-first;
      }
    where
      stopped-first : BatchRuns s work (requests_of calls) out 0 0 s (zeroed (nodes_of (length s)) work) out
      stopped-first =
          record {
            given = [];
            run = stop;
            size = refl;
            is_sound = (batch-starts s work fit).is_sound;
            area = refl;
            answers = refl;
            length_is = refl;
            fits = omega arith;
            among = omega arith;
            had_room = tt;
            stopped = rw reads (omega arith);
          }

  pub not_more : {no done written : ℕ} {s' work' out' : List ℕ} → BatchMeets s work calls out no done written s' work' out' → done ≡ 0
  not_more m = (batch-determined m none_done).done
