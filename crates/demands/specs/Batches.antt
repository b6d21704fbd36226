-- Demand 3 for a batch: what a function that runs promises of a whole list of calls, whatever bytes it is handed. With the number 0 the store
-- was sound; the answers of the calls done are the plain map's on them, from the table that the store had, and stand byte for byte in the
-- buffer; the store after them is sound and means the plain map's table. Relies on the contract of a batch (image) and on Demand.
use Rattle.std.specs.Prelude.{ℕ, ◌*◌, ◌≤◌, ◌≡◌, refl, List, [], ◌∷◌, ◌++◌, Bool, true, false, ◌&&◌, length, take, drop, leb}
use Rattle.image.specs.Prelude.{sym, ap, ◌∙◌, false≢true, arith, le-leb}
use Rattle.image.specs.Table.{find}
use Rattle.image.specs.Image.{nodes_of, whole_nodes}
use Rattle.image.specs.Sound.{sound, table_of, value_in}
use Rattle.image.specs.Calls.{Call, Answer, ask, first_no, work_per_node}
use Rattle.image.specs.PlainMap.{reported, table_on, answers_on}
use Rattle.image.specs.Contract.{Made, Run, stop, call}
use Rattle.image.specs.Batch.{Request, acting, keeping, asking, requests_of, call_of, calls_of, answers_bytes, batch_no, zeroed, BatchRuns, BatchMeets}
use Rattle.octets.specs.Order.{and_left}
use Rattle.laws.specs.LookupTable.{means-table}
use Rattle.demands.specs.Demand.{reported_of, Represents, run-answers, run-goes, Agrees, demand}

-- the first calls of a batch, with the work area as the batch makes it
abbrev pub calls_done : List ℕ → List ℕ → List ℕ → ℕ → List Call
calls_done s work calls done = calls_of (zeroed (nodes_of (length s)) work) (take done (requests_of calls))

-- no flush and no heal: the plain map has no answer for these
unfoldable pub no_upkeep : List Request → Bool
no_upkeep [] = true
no_upkeep (acting a ∷ rs) = no_upkeep rs
no_upkeep (keeping u i ∷ rs) = false
no_upkeep (asking q ∷ rs) = no_upkeep rs

-- A batch that was accepted.
pub record BatchAgrees (s work calls out : List ℕ) (done written : ℕ) (s' out' : List ℕ) : Type 0 where
  -- the store was sound, and the calls done are so many from the front
  pub was_sound : sound s ≡ true
  pub among : done ≤ length (requests_of calls)
  -- each call has its contract on the store as the last one left it: so the number of a flush or heal is the image's rule, first_no_on
  pub given : List Answer
  pub run : Run s (calls_done s work calls done) given s'
  -- the answers of all others are the plain map's, from the table of the store before
  pub answers : reported_of (calls_done s work calls done) given ≡ answers_on (nodes_of (length s)) (calls_done s work calls done) (table_of s)
  -- the answers stand in front, and later bytes are as they were
  pub bytes : out' ≡ answers_bytes given ++ drop written out
  -- without flush and heal: one equation on the bytes
  pub plainly : no_upkeep (take done (requests_of calls)) ≡ true
      → out' ≡ answers_bytes (answers_on (nodes_of (length s)) (calls_done s work calls done) (table_of s)) ++ drop written out
  -- the image after it is sound, as long as before, and means the plain map's table
  pub is_sound : sound s' ≡ true
  pub size : length s' ≡ length s
  pub table : table_of s' ≡ table_on (nodes_of (length s)) (calls_done s work calls done) (table_of s)
  pub image : (p : List ℕ) → value_in s' p ≡ find p (table_on (nodes_of (length s)) (calls_done s work calls done) (table_of s))
  -- on a store just made: demand 3, for this list
  pub made : Made s → Agrees (nodes_of (length s)) (calls_done s work calls done) given s s'

-- both questions were a yes
both_yes : (a b : Bool) → first_no (ask 1 a ∷ ask 2 b ∷ []) ≡ 0 → (a ≡ true) × (b ≡ true)
unfolding first_no
both_yes true true e = (refl, refl)
both_yes true false e = absurd (omega arith)
both_yes false b e = absurd (omega arith)

-- the store of an accepted batch goes with the plain map of its own table
pub batch-starts : (s work : List ℕ) → batch_no s work ≡ 0 → Represents (nodes_of (length s)) (table_of s) s
batch-starts s work none = record { whole = and_left _ _ yes.0; is_sound = yes.1; nodes = refl; table = refl }
  where
    yes : (whole_nodes (length s) && leb (work_per_node * nodes_of (length s)) (length work) ≡ true) × (sound s ≡ true)
    yes = both_yes _ _ (unfold batch_no in none)

-- where the plain map answers every call, all answers are reported
pub all-reported : (work : List ℕ) (rs : List Request) {s s' : List ℕ} {given : List Answer} → no_upkeep rs ≡ true → Run s (calls_of work rs) given s'
    → reported_of (calls_of work rs) given ≡ given
unfolding no_upkeep calls_of call_of reported_of reported
all-reported work [] e stop = refl
all-reported work (acting a ∷ rs) {s = s} {given = []} e r = elim r [ ]
all-reported work (acting a ∷ rs) {given = b ∷ given} e (call m r) = ap (λ l. b ∷ l) (all-reported work rs e r)
all-reported work (keeping u i ∷ rs) e r = absurd (false≢true e)
all-reported work (asking q ∷ rs) {s = s} {given = []} e r = elim r [ ]
all-reported work (asking q ∷ rs) {given = b ∷ given} e (call m r) = ap (λ l. b ∷ l) (all-reported work rs e r)

pub batch-agrees : {s work calls out s' work' out' : List ℕ} {done written : ℕ} → BatchMeets s work calls out 0 done written s' work' out'
    → BatchAgrees s work calls out done written s' out'
batch-agrees {s} {work} {calls} {out} {s'} {work'} {out'} {done} {written} m =
    record {
      was_sound = before.is_sound;
      among = r.among;
      given = r.given;
      run = r.run;
      answers = same-answers;
      bytes = r.answers;
      plainly = λ e. r.answers ∙ ap (λ l. answers_bytes l ++ drop written out) (sym (all-reported (zeroed (nodes_of (length s)) work) (take done (requests_of calls)) e r.run) ∙ same-answers);
      is_sound = r.is_sound;
      size = r.size;
      table = after.table;
      image = λ p. means-table s' r.is_sound p ∙ ap (λ t. find p t) after.table;
      made = λ k. demand.lists k r.run;
    }
  where
    none : batch_no s work ≡ 0
    none = sym m.answer

    r : BatchRuns s work (requests_of calls) out done written s' work' out'
    r = m.runs none

    before : Represents (nodes_of (length s)) (table_of s) s
    before = batch-starts s work none

    same-answers : reported_of (calls_done s work calls done) r.given ≡ answers_on (nodes_of (length s)) (calls_done s work calls done) (table_of s)
    same-answers = run-answers (nodes_of (length s)) (table_of s) before r.run

    after : Represents (nodes_of (length s)) (table_on (nodes_of (length s)) (calls_done s work calls done) (table_of s)) s'
    after = run-goes (nodes_of (length s)) (table_of s) before r.run

-- a store just made is accepted, where the work area is long enough
pub made-accepted : (s work : List ℕ) → Made s → work_per_node * nodes_of (length s) ≤ length work → batch_no s work ≡ 0
unfolding batch_no first_no
made-accepted s work k h = rw (k.whole, le-leb (work_per_node * nodes_of (length s)) (length work) h, k.is_sound) refl
