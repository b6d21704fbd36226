-- What a call's contract says of the text of a line: the store's answers are the plain map's, where the store is sound and of 64 nodes.
-- Relies on: the contract Meets, and the list of a query's questions (query).
use Rattle.std.specs.Prelude.{ℕ, zero, suc, ◌+◌, ◌*◌, ◌≤◌, ◌≡◌, refl, List, [], ◌∷◌, ◌++◌, true, ◌&&◌, length, take, drop, leb, Result, Ok, Err}
use Rattle.image.specs.Prelude.{sym, ap, subst, ◌∙◌, Option, none, some, arith, length-replicate, take_at, le-leb}
use Rattle.image.specs.Path.{value_limit, path_limit}
use Rattle.image.specs.Table.{Row, find, is_some}
use Rattle.image.specs.Image.{nodes_of, whole_nodes}
use Rattle.image.specs.Sound.{sound, table_of}
use Rattle.image.specs.Calls.{Call, Act, acts, asks, Query, get, Answer, filled, Question, ask, first_no, work_long, work_per_node, questions, answer_at, table_at, table_after, accepted, refused, fill, found_by}
use Rattle.image.specs.PlainMap.{plain_first_no}
use Rattle.image.specs.Contract.{node_questions, first_no_on, Meets}
use Rattle.image.specs.Answers.{refusal_number, outcome_number, outcome_answer, found_answer}
use Rattle.image.specs.declared.Refusal.{Refusal}
use Rattle.laws.specs.ValuesFit.{table_fits, found-fits}
use Rattle.laws.specs.Refusals.{refusal-some}
use Rattle.query.specs.Asked.{paths_fit, buffer_limit, number_is, found_length}
use Rattle.image.specs.Program.{Command, acting, getting, bad, area, value_buffer, bad_text, ok_text, refused_text, text_at, answer_text, value_text, call_text, command_text, command_table, command_of, said, after_line, line_feed, program_nodes}
use Rattle.script.specs.Writing.{Wrote, wrote-within}

-- how long the line of a row is at most: its path, a space, its value in hexadecimal, a line feed
abbrev pub row_limit : ℕ
row_limit = path_limit + 2 * value_limit + 2

-- how long a list is at most but for its end: a line for each of 64 paths
abbrev pub list_limit : ℕ
list_limit = 64 * row_limit

-- the store of the program, and a page for the longest text
pub record Held (store out : List ℕ) : Type 0 where
  pub nodes : length store ≡ 65536
  pub is_sound : sound store ≡ true
  pub page : list_limit + 4 ≤ length out

pub held_on : (store out out' : List ℕ) → Held store out → length out' ≡ length out → Held store out'
held_on store out out' h e = record { nodes = h.nodes; is_sound = h.is_sound; page = omega (arith, h.page) }

-- what a command leaves: its text in the first r bytes of the page, and its table in the store, which is sound again and of its size
pub record Answered (s : List ℕ) (c : Command) (r : ℕ) (out' s' : List ℕ) : Type 0 where
  pub text : take r out' ≡ command_text program_nodes c (table_of s)
  pub fits : r ≤ length out'
  pub table : table_of s' ≡ command_table program_nodes c (table_of s)
  pub still_sound : sound s' ≡ true
  pub size : length s' ≡ length s

-- the same, of a line
pub record Says (s line : List ℕ) (r : ℕ) (out' s' : List ℕ) : Type 0 where
  pub text : take r out' ≡ said program_nodes line (table_of s)
  pub fits : r ≤ length out'
  pub table : table_of s' ≡ after_line program_nodes line (table_of s)
  pub still_sound : sound s' ≡ true
  pub size : length s' ≡ length s

pub says : (s line : List ℕ) (c : Command) (r : ℕ) (out' s' : List ℕ) → command_of line ≡ c → Answered s c r out' s' → Says s line r out' s'
unfolding said after_line
says s line c r out' s' e a =
    record {
      text = a.text ∙ ap (λ x. command_text program_nodes x (table_of s)) (sym e);
      fits = a.fits;
      table = a.table ∙ ap (λ x. command_table program_nodes x (table_of s)) (sym e);
      still_sound = a.still_sound;
      size = a.size;
    }

pub answered-as : (s : List ℕ) (c d : Command) (r : ℕ) (out' s' : List ℕ) → c ≡ d → Answered s c r out' s' → Answered s d r out' s'
answered-as s c d r out' s' e a = subst (λ x. Answered s x r out' s') e a

-- THE TEXT OF AN ANSWER
refused-at : (r : Refusal) (text : List ℕ) → text_at (refusal_number r) text ≡ refused_text (refusal_number r)
unfolding text_at refusal_number
refused-at Refusal.Length text = refl
refused-at Refusal.Unsound text = refl
refused-at Refusal.Malformed text = refl
refused-at Refusal.LongValue text = refl
refused-at Refusal.ShortBuffer text = refl
refused-at Refusal.NotInterior text = refl
refused-at Refusal.Nested text = refl
refused-at Refusal.Absent text = refl
refused-at Refusal.BecomesMalformed text = refl
refused-at Refusal.Full text = refl

pub done-text : (o : Result (Unit {0}) Refusal) → o ≡ Ok tt → ok_text ≡ answer_text (outcome_answer o)
unfolding answer_text outcome_answer outcome_number text_at
done-text o e = rw e

pub refusal-text : (o : Result (Unit {0}) Refusal) (r : Refusal) (k : ℕ) → o ≡ Err r → k ≡ refusal_number r → refused_text k ≡ answer_text (outcome_answer o)
unfolding answer_text outcome_answer outcome_number
refusal-text o r k e f = rw (e, f) (sym (refused-at r ok_text))

pub value-text : (f : Result ℕ Refusal) (n : ℕ) (buffer : List ℕ) → f ≡ Ok n → value_text (take n buffer) ++ (line_feed ∷ []) ≡ answer_text (found_answer f buffer)
unfolding answer_text found_answer text_at
value-text f n buffer e = rw e

pub absent-text : (f : Result ℕ Refusal) (r : Refusal) (k : ℕ) (buffer : List ℕ) → f ≡ Err r → k ≡ refusal_number r → refused_text k ≡ answer_text (found_answer f buffer)
unfolding answer_text found_answer
absent-text f r k buffer e g = rw (e, g) (sym (refused-at r (value_text (take 0 buffer) ++ (line_feed ∷ []))))

-- THE STORE'S ANSWERS ARE THE PLAIN MAP'S
pub whole-64 : (n : ℕ) → n ≡ 65536 → whole_nodes n ≡ true
unfolding whole_nodes nodes_of
whole-64 n e = rw e refl

nodes-64 : (n : ℕ) → n ≡ 65536 → nodes_of n ≡ 64
unfolding nodes_of
nodes-64 n e = rw e refl

skip-two : (qs : List Question) → first_no (ask 1 (true && true) ∷ ask 2 true ∷ qs) ≡ first_no (ask 1 true ∷ qs)
unfolding first_no
skip-two qs = refl

area-long : leb (work_per_node * 64) (length (area 64)) ≡ true
unfolding area
area-long = ap (leb (work_per_node * 64)) (length-replicate {A = ℕ} (work_per_node * 64) 0) ∙ le-leb (work_per_node * 64) (work_per_node * 64) (omega arith)

-- the answer and the table of a call do not depend on the bytes of its work area
answer-alike : (k : ℕ) (a : Act) (w v : List ℕ) (t : List Row) → answer_at k (acts a w) t ≡ answer_at k (acts a v) t
unfolding answer_at accepted refused
answer-alike zero a w v t = refl
answer-alike (suc k) a w v t = refl

table-alike : (k : ℕ) (a : Act) (w v : List ℕ) (t : List Row) → table_at k (acts a w) t ≡ table_at k (acts a v) t
unfolding table_at table_after
table-alike zero a w v t = refl
table-alike (suc k) a w v t = refl

module _ (s out : List ℕ) (h : Held s out) where
  act-no : (a : Act) (work : List ℕ) → 8192 ≤ length work → first_no_on s (acts a work) ≡ plain_first_no 64 (acts a (area 64)) (table_of s)
  unfolding first_no_on plain_first_no node_questions questions work_long
  act-no a work l =
      let w : whole_nodes (length s) ≡ true = whole-64 (length s) h.nodes in
      let n : nodes_of (length s) ≡ 64 = nodes-64 (length s) h.nodes in
      let long : leb (work_per_node * 64) (length work) ≡ true = le-leb (work_per_node * 64) (length work) (omega arith) in
      rw (w, n, h.is_sound, long, area-long) (skip-two _)

  after-sound : (c : Call) (a : Answer) (s' w' : List ℕ) → Meets s c a s' w' → sound s' ≡ true
  after-sound c a s' w' m = by_number (first_no_on s c) refl
    where
      by_number : (k : ℕ) → first_no_on s c ≡ k → sound s' ≡ true
      by_number zero e = m.leaves e
      by_number (suc k) e = rw (m.stays k e) h.is_sound

  -- put, drop, clear, move, settle, tidy
  pub act-answered : (a : Act) (work : List ℕ) (o : Result (Unit {0}) Refusal) (s' w' out₁ : List ℕ) (r : ℕ) (out' : List ℕ) → 8192 ≤ length work
      → Meets s (acts a work) (outcome_answer o) s' w' → Wrote out₁ 0 (answer_text (outcome_answer o)) r out' → Answered s (acting a) r out' s'
  unfolding command_text command_table call_text
  act-answered a work o s' w' out₁ r out' l m w =
      let no : first_no_on s (acts a work) ≡ plain_first_no 64 (acts a (area 64)) (table_of s) = act-no a work l in
      record {
        text =
            w.bytes
            ∙ ap answer_text (m.answer ∙ answer-alike (first_no_on s (acts a work)) a work (area 64) (table_of s)
            ∙ ap (λ k. answer_at k (acts a (area 64)) (table_of s)) no);
        fits = wrote-within out₁ (answer_text (outcome_answer o)) r out' w;
        table =
            m.table ∙ table-alike (first_no_on s (acts a work)) a work (area 64) (table_of s)
            ∙ ap (λ k. table_at k (acts a (area 64)) (table_of s)) no;
        still_sound = after-sound (acts a work) (outcome_answer o) s' w' m;
        size = m.size;
      }

  -- get
  get-no : (p buffer : List ℕ) → first_no_on s (asks (get p) buffer) ≡ plain_first_no 64 (asks (get p) buffer) (table_of s)
  unfolding first_no_on plain_first_no node_questions questions work_long
  get-no p buffer =
      let w : whole_nodes (length s) ≡ true = whole-64 (length s) h.nodes in
      rw (w, h.is_sound) (skip-two _)

  pub get-answered : (p : List ℕ) (f : Result ℕ Refusal) (buffer' out₁ : List ℕ) (r : ℕ) (out' : List ℕ)
      → Meets s (asks (get p) value_buffer) (found_answer f buffer') s [] → Wrote out₁ 0 (answer_text (found_answer f buffer')) r out' → Answered s (getting p) r out' s
  unfolding command_text command_table call_text
  get-answered p f buffer' out₁ r out' m w =
      record {
        text = w.bytes ∙ ap answer_text (m.answer ∙ ap (λ k. answer_at k (asks (get p) value_buffer) (table_of s)) (get-no p value_buffer));
        fits = wrote-within out₁ (answer_text (found_answer f buffer')) r out' w;
        table = refl;
        still_sound = h.is_sound;
        size = refl;
      }

  -- a line that is bad, and a list with a malformed path
  pub bad-answered : (out₁ : List ℕ) (r : ℕ) (out' : List ℕ) → Wrote out₁ 0 bad_text r out' → Answered s bad r out' s
  unfolding command_text command_table
  bad-answered out₁ r out' w = record { text = w.bytes; fits = wrote-within out₁ bad_text r out' w; table = refl; still_sound = h.is_sound; size = refl }

  -- WHAT A QUERY FINDS
  query-no : (q : Query) (buffer : List ℕ) → paths_fit q ≡ true → buffer_limit q ≤ length buffer
      → first_no_on s (asks q buffer) ≡ first_no (ask 8 (is_some (found_by q (table_of s))) ∷ [])
  unfolding first_no
  query-no q buffer e l =
      let w : whole_nodes (length s) ≡ true = whole-64 (length s) h.nodes in
      number_is s q buffer ∙ rw (w, h.is_sound, e, le-leb (buffer_limit q) (length buffer) l) refl

  module _ (q : Query) (buffer : List ℕ) (formed : paths_fit q ≡ true) (room : buffer_limit q ≤ length buffer) (f : Result ℕ Refusal) (buffer' : List ℕ)
      (m : Meets s (asks q buffer) (found_answer f buffer') s []) where
    -- nothing is there: the answer is the refusal 8
    answer-none : found_by q (table_of s) ≡ none → found_answer f buffer' ≡ filled 8 0 buffer
    unfolding first_no is_some answer_at refused
    answer-none e =
        let no : first_no_on s (asks q buffer) ≡ 8 = query-no q buffer formed room ∙ rw e refl in
        m.answer ∙ ap (λ k. answer_at k (asks q buffer) (table_of s)) no

    answer-some : (v : List ℕ) → found_by q (table_of s) ≡ some v → found_answer f buffer' ≡ filled 0 (length v) (v ++ drop (length v) buffer)
    unfolding first_no is_some answer_at accepted fill
    answer-some v e =
        let no : first_no_on s (asks q buffer) ≡ 0 = query-no q buffer formed room ∙ rw e refl in
        m.answer ∙ ap (λ k. answer_at k (asks q buffer) (table_of s)) no ∙ ap (fill buffer) e

    -- the answer is a length: the bytes are what was looked for
    pub took : (n : ℕ) → f ≡ Ok n → (found_by q (table_of s) ≡ some (take n buffer')) × (length (take n buffer') ≡ n)
    unfolding found_answer
    took n e = go (found_by q (table_of s)) refl
      where
        shown : filled 0 n buffer' ≡ found_answer f buffer'
        shown = ap (λ x. found_answer x buffer') (sym e)

        go : (o : Option (List ℕ)) → found_by q (table_of s) ≡ o → (found_by q (table_of s) ≡ some (take n buffer')) × (length (take n buffer') ≡ n)
        go none g =
            let z : filled 0 n buffer' ≡ filled 8 0 buffer = shown ∙ answer-none g in
            let o : ◌≡◌ {A = ℕ} 0 8 = cc in absurd (omega arith)
        go (some v) g =
            let z : filled 0 n buffer' ≡ filled 0 (length v) (v ++ drop (length v) buffer) = shown ∙ answer-some v g in
            let size : n ≡ length v = cc in
            let bytes : buffer' ≡ v ++ drop (length v) buffer = cc in
            let front : take n buffer' ≡ v = ap (take n) bytes ∙ take_at v (drop (length v) buffer) n (sym size) in
            (g ∙ ap some (sym front), ap length front ∙ sym size)

    -- the answer is a refusal: there is nothing
    pub left : (r : Refusal) → f ≡ Err r → found_by q (table_of s) ≡ none
    unfolding found_answer
    left r e = go (found_by q (table_of s)) refl
      where
        go : (o : Option (List ℕ)) → found_by q (table_of s) ≡ o → found_by q (table_of s) ≡ none
        go none g = g
        go (some v) g =
            let z : filled (refusal_number r) 0 buffer' ≡ filled 0 (length v) (v ++ drop (length v) buffer) = ap (λ x. found_answer x buffer') (sym e) ∙ answer-some v g in
            let o : refusal_number r ≡ 0 = cc in absurd (omega (arith, refusal-some r))

  -- a value that get gives fits
  pub get-short : (p buffer : List ℕ) (f : Result ℕ Refusal) (buffer' : List ℕ) → Meets s (asks (get p) buffer) (found_answer f buffer') s [] → found_length f ≤ value_limit
  unfolding found_length
  get-short p buffer (Err r) buffer' m = omega arith
  get-short p buffer (Ok n) buffer' m = by_number (first_no_on s (asks (get p) buffer)) m.answer
    where
      by-found : (o : Option (List ℕ)) → find p (table_of s) ≡ o → filled 0 n buffer' ≡ fill buffer o → n ≤ value_limit
      by-found none g z = let e : n ≡ 0 = unfold fill in cc in omega arith
      by-found (some v) g z =
          let e : n ≡ length v = unfold fill in cc in
          let l : length v ≤ value_limit = found-fits p v (table_of s) (table_fits s h.is_sound) g in
          omega arith

      by_number : (k : ℕ) → found_answer (Ok n) buffer' ≡ answer_at k (asks (get p) buffer) (table_of s) → n ≤ value_limit
      by_number zero z = by-found (find p (table_of s)) refl (unfold found_answer answer_at accepted found_by in z)
      by_number (suc k) z =
          let y : filled 0 n buffer' ≡ filled (suc k) 0 buffer = unfold found_answer answer_at refused in z in
          let o : 0 ≡ suc k = cc in absurd (omega arith)
