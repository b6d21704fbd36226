-- Demand 3, from the contracts of the calls: for every list of calls on a store just made, the answers are the plain map's, and the image
-- at the end is sound and means what the map then holds; and the node bound of a move. Record Demand has the statements.
-- Relies on the contracts and the plain map (image) and, that lookup finds what the table has, on laws.
use Rattle.std.specs.Prelude.{ℕ, zero, suc, ◌+◌, ◌*◌, ◌≤◌, ◌≡◌, refl, List, [], ◌∷◌, Bool, true, false, length}
use Rattle.image.specs.Prelude.{sym, ap, ◌∙◌}
use Rattle.image.specs.Table.{Row, find}
use Rattle.image.specs.Image.{nodes_of, whole_nodes, header_of}
use Rattle.image.specs.Sound.{sound, table_of, value_in}
use Rattle.image.specs.Calls.{Call, acts, keeps, asks, Upkeep, move, Question, ask, first_no, work_long, questions, Answer, number_of, answer_at, table_at, table_after}
use Rattle.laws.specs.LookupTable.{means-table}
use Rattle.image.specs.Upkeep.{changed}
use Rattle.image.specs.PlainMap.{plain_first_no, reported, table_on, answers_on}
use Rattle.image.specs.Contract.{node_questions, first_no_on, Besides, Bounded, MoveKeeps, Meets, Made, MakeMeets, Run, stop, call}
use Rattle.demands.specs.Consequences.{all_yes, stays-sound, run-size}

-- the answers of a run that the demand speaks of
unfoldable pub reported_of : List Call → List Answer → List Answer
reported_of [] later = []
reported_of (c ∷ cs) [] = []
reported_of (c ∷ cs) (a ∷ later) = reported c a (reported_of cs later)

-- a store that goes with the plain map of n nodes and the table t
pub record Represents (n : ℕ) (t : List Row) (s : List ℕ) : Type 0 where
  pub whole : whole_nodes (length s) ≡ true
  pub is_sound : sound s ≡ true
  pub nodes : nodes_of (length s) ≡ n
  pub table : table_of s ≡ t

skip : (b : Bool) (qs : List Question) → first_no (ask 1 b ∷ ask 2 true ∷ qs) ≡ first_no (ask 1 b ∷ qs)
unfolding first_no
skip true qs = refl
skip false qs = refl

-- the store's questions are the plain map's
same-no : (n : ℕ) (t : List Row) (s : List ℕ) (c : Call) → Represents n t s → node_questions c s ≡ [] → first_no_on s c ≡ plain_first_no n c t
unfolding first_no_on plain_first_no
same-no n t s c g e =
    rw (g.whole, g.is_sound, e, g.nodes, g.table) (skip (work_long n c) (questions n c t))

-- a flush or heal leaves the table, whatever its number
table_kept : (k : ℕ) (u : Upkeep) (i : ℕ) (work : List ℕ) (t : List Row) → table_at k (keeps u i work) t ≡ t
unfolding table_at table_after
table_kept zero u i work t = refl
table_kept (suc k) u i work t = refl

module _ (n : ℕ) (t : List Row) (s : List ℕ) (g : Represents n t s) where
  -- where no node is asked for, number, table and answer are the plain map's
  no-node-table : (c : Call) {a : Answer} {s' w' : List ℕ} → Meets s c a s' w' → node_questions c s ≡ [] → table_of s' ≡ table_at (plain_first_no n c t) c t
  no-node-table c m e = m.table ∙ rw (same-no n t s c g e, g.table)

  pub no-node-answer : (c : Call) {a : Answer} {s' w' : List ℕ} → Meets s c a s' w' → node_questions c s ≡ [] → a ≡ answer_at (plain_first_no n c t) c t
  no-node-answer c m e = m.answer ∙ rw (same-no n t s c g e, g.table)

  -- what a call leaves goes with what the plain map then holds
  table-goes : (c : Call) {a : Answer} {s' w' : List ℕ} → Meets s c a s' w' → table_of s' ≡ table_at (plain_first_no n c t) c t
  unfolding node_questions
  table-goes (acts x work) m = no-node-table (acts x work) m refl
  table-goes (keeps u i work) m = m.table ∙ table_kept _ u i work (table_of s) ∙ g.table ∙ sym (table_kept _ u i work t)
  table-goes (asks q buffer) m = no-node-table (asks q buffer) m refl

  answer-goes : (c : Call) {a : Answer} {s' w' : List ℕ} (later : List Answer) → Meets s c a s' w'
      → reported c a later ≡ reported c (answer_at (plain_first_no n c t) c t) later
  unfolding node_questions reported
  answer-goes (acts x work) later m = ap (λ b. b ∷ later) (no-node-answer (acts x work) m refl)
  answer-goes (keeps u i work) later m = refl
  answer-goes (asks q buffer) later m = ap (λ b. b ∷ later) (no-node-answer (asks q buffer) m refl)

  pub goes-on : (c : Call) {a : Answer} {s' w' : List ℕ} → Meets s c a s' w' → Represents n (table_at (plain_first_no n c t) c t) s'
  goes-on c m =
      record {
        whole = rw m.size g.whole;
        is_sound = stays-sound m g.is_sound;
        nodes = rw m.size g.nodes;
        table = table-goes c m;
      }

-- the answers of a run, and the store that it leaves
pub run-answers : (n : ℕ) (t : List Row) {s s' : List ℕ} {cs : List Call} {later : List Answer}
    → Represents n t s → Run s cs later s' → reported_of cs later ≡ answers_on n cs t
unfolding reported_of answers_on
run-answers n t g stop = refl
run-answers n t {s} g (call {c = c} {a = a} {cs = cs} {later = later} m r) =
    ap (λ l. reported c a l) (run-answers n (table_at (plain_first_no n c t) c t) (goes-on n t s g c m) r)
    ∙ answer-goes n t s g c (answers_on n cs (table_at (plain_first_no n c t) c t)) m

pub run-goes : (n : ℕ) (t : List Row) {s s' : List ℕ} {cs : List Call} {later : List Answer}
    → Represents n t s → Run s cs later s' → Represents n (table_on n cs t) s'
unfolding table_on
run-goes n t g stop = g
run-goes n t {s} g (call {c = c} m r) = run-goes n (table_at (plain_first_no n c t) c t) (goes-on n t s g c m) r

-- A list of calls agrees with the plain map of n nodes that begins with no rows. The answers are given and the store s' is left; of the
-- first store s only the length counts.
pub record Agrees (n : ℕ) (cs : List Call) (given : List Answer) (s s' : List ℕ) : Type 0 where
  -- each call's number, length and whole buffer are the plain map's (flush and heal have no answer there)
  pub answers : reported_of cs given ≡ answers_on n cs []
  -- the image at the end is sound, and as long as at first
  pub is_sound : sound s' ≡ true
  pub size : length s' ≡ length s
  -- it means exactly what the map then holds: as a table, and by lookup for every string of bytes
  pub table : table_of s' ≡ table_on n cs []
  pub image : (p : List ℕ) → value_in s' p ≡ find p (table_on n cs [])

agrees : {s s' : List ℕ} {cs : List Call} {given : List Answer} → Made s → Run s cs given s' → Agrees (nodes_of (length s)) cs given s s'
agrees {s} {s'} {cs} made r =
    let g : Represents (nodes_of (length s)) [] s = record { whole = made.whole; is_sound = made.is_sound; nodes = refl; table = made.empty } in
    let g' : Represents (nodes_of (length s)) (table_on (nodes_of (length s)) cs []) s' = run-goes (nodes_of (length s)) [] g r in
    record {
      answers = run-answers (nodes_of (length s)) [] g r;
      is_sound = g'.is_sound;
      size = run-size r;
      table = g'.table;
      image = λ p. means-table s' g'.is_sound p ∙ ap (λ t. find p t) g'.table;
    }

-- an accepted make leaves a store just made, as long as the bytes that it was given
agrees-made : {s₀ s s' : List ℕ} {cs : List Call} {given : List Answer} → MakeMeets s₀ 0 s → Run s cs given s'
    → Agrees (nodes_of (length s₀)) cs given s₀ s'
agrees-made {s₀} {s} {s'} {cs} {given} m r =
    let g : Agrees (nodes_of (length s)) cs given s s' = agrees (m.leaves (sym m.answer)) r in
    record {
      answers = rw (← m.size) g.answers;
      is_sound = g.is_sound;
      size = g.size ∙ m.size;
      table = rw (← m.size) g.table;
      image = rw (← m.size) g.image;
    }

move-keeps : {s s' w' from to work : List ℕ} {a : Answer} → Meets s (acts (move from to) work) a s' w' → number_of a ≡ 0 → MoveKeeps s s' from to
unfolding Besides
move-keeps m e = m.also (all_yes m e)

-- Demand 3, whole.
pub record Demand : Type 0 where
  -- every list of calls on a store just made agrees with the plain map
  pub lists : {s s' : List ℕ} {cs : List Call} {given : List Answer} → Made s → Run s cs given s' → Agrees (nodes_of (length s)) cs given s s'
  -- so does every list after an accepted make, whatever the bytes were before it
  pub made : {s₀ s s' : List ℕ} {cs : List Call} {given : List Answer} → MakeMeets s₀ 0 s → Run s cs given s'
      → Agrees (nodes_of (length s₀)) cs given s₀ s'
  -- an accepted move on a settled store of L levels, at most 7, with at least 12 × L + 8 free nodes, changes at most 16 × L + 8 nodes
  pub moves : {s s' w' from to work : List ℕ} {a : Answer} → Meets s (acts (move from to) work) a s' w' → number_of a ≡ 0
      → Bounded s → changed (nodes_of (length s)) s s' ≤ 16 * (header_of s).levels + 8

pub demand : Demand
demand = record { lists = agrees; made = agrees-made; moves = λ m e. (move-keeps m e).few }
