-- A change carried out: what each step leaves, and the contract of put, drop and clear from it.
use Rattle.std.specs.Prelude.{ℕ, ◌*◌, ◌/◌, ◌<◌, ◌≤◌, ◌≡◌, refl, List, [], ◌∷◌, ◌++◌, Bool, true, false, ◌||◌, ◌⊎◌, length, drop, leb, ltb, Option, Ok, Err}
use Rattle.image.specs.Prelude.{sym, ap, subst, ◌∙◌, inl, arith, le-leb, lt-leb}
use Rattle.image.specs.Bytes.{same}
use Rattle.image.specs.Path.{well_formed, value_limit, value_fits}
use Rattle.image.specs.Entry.{Message, puts, drops, clears, message}
use Rattle.image.specs.Table.{find, is_some}
use Rattle.image.specs.Image.{nodes_of, whole_nodes}
use Rattle.image.specs.Meaning.{apply}
use Rattle.image.specs.Sound.{sound, table_of, sound_message, lowest, highest}
use Rattle.image.specs.Calls as calls
use Rattle.image.specs.Calls.{acts, Act, first_no, work_per_node, questions, act_questions, table_after, act_table}
use Rattle.image.specs.Contract.{node_questions, first_no_on, Besides, Made}
use Rattle.image.specs.Answers.{refusal_number}
use Rattle.image.specs.declared.Refusal.{Refusal}
use Rattle.laws.specs.ButLive.{sound_but_live, sound-but-live}
use Rattle.append.specs.Laws.Append.{room_at_root, appended, Appended}
use Rattle.append.specs.Laws.Raise.{root_raised}
use Rattle.append.specs.Callers.{message-appended, message-raised}
use Rattle.laws.specs.Encode.{bytes_of}
use Rattle.path.specs.Fed.{some-fed}
use Rattle.make.specs.Emptied.{emptied, emptied-length, emptied-made}
use Rattle.laws.specs.Tables.{clear-empty}
use Rattle.laws.specs.Follow.{table-rises}
use Rattle.dump.specs.RootSteps.{table-few}
use Rattle.rebuild.specs.Rebuild.{cleared}
use Rattle.finish.specs.Finished.{Finished, finish-done}
use Rattle.laws.specs.Page.{zeros_of}
use Rattle.append.specs.Laws.SetLive.{with_live}
use Rattle.octets.specs.Cap.{cap}
use Rattle.questions.specs.Callers.{to_act, later_no, later-number}
use Rattle.questions.specs.Acted.{Acted, acted-done, acted-refused}
use Rattle.edit.specs.Change.{Sized, Allowed, put-allowed, drop-allowed, clear-allowed, few-after}
use Rattle.edit.specs.Known.{CountWith, place-told}
use Rattle.edit.specs.Room.{Free, Fits, Roomy}
use Rattle.tree_check.specs.Layout.{nodes-are}

-- The message written, where there is room for it.
module _ (s s' : List ℕ) (m : Message) (ok : sound s ≡ true) (formed : sound_message lowest highest m ≡ true) where
  pub written-here : room_at_root s (length (bytes_of (message m))) ≡ true → s' ≡ appended s m → Appended s m s'
  written-here room q = message-appended s s' (sound-but-live s ok) m formed room q

  pub written-above : Sized m → (i : ℕ) → Free s i → s' ≡ root_raised s i m → Appended s m s'
  written-above z i f q = message-raised s s' (sound-but-live s ok) m formed i f.low f.high f.unused f.seven (omega arith) q

-- the live count right
pub record Counted (s s' : List ℕ) : Type 0 where
  pub is_sound : sound s' ≡ true
  pub table : table_of s' ≡ table_of s
  pub size : length s' ≡ length s

-- the live count written
pub counted : (s s' : List ℕ) → whole_nodes (length s) ≡ true → sound_but_live s ≡ true → length (table_of s) ≤ nodes_of (length s)
    → (live : ℕ) → live ≡ cap (length (table_of s)) → s' ≡ with_live s live → Counted s s'
counted s s' whole e few live l q =
    let f : Finished s s' [] (zeros_of (128 * (length s / 1024)) ++ drop (128 * (length s / 1024)) []) =
    finish-done s s' [] (zeros_of (128 * (length s / 1024)) ++ drop (128 * (length s / 1024)) []) live (128 * (length s / 1024)) whole e few l q refl refl in
    record { is_sound = f.is_sound; table = f.table; size = f.size }

-- a whole change
pub record Edited (s s' w w' : List ℕ) (m : Message) : Type 0 where
  pub is_sound : sound s' ≡ true
  pub table : table_of s' ≡ apply [] m (table_of s)
  pub size : length s' ≡ length s
  pub area : (w' ≡ w) ⊎ (w' ≡ cleared (nodes_of (length s)) w)

module _ (s s₁ s₂ s₃ w w₁ : List ℕ) (m : Message) (size : ℕ) (free : Option ℕ) (whole : whole_nodes (length s) ≡ true) (ok : sound s ≡ true)
    (allowed : Allowed m (table_of s) (nodes_of (length s)))
    (roomy : Roomy s s₁ w w₁ size free) (appended : Appended s₁ m s₂) where
  same_nodes : nodes_of (length s₂) ≡ nodes_of (length s)
  same_nodes = ap nodes_of (appended.size ∙ roomy.length_same)

  pub new-table : table_of s₂ ≡ apply [] m (table_of s)
  new-table = appended.table ∙ ap (apply [] m) roomy.table

  pub few-rows : length (table_of s₂) ≤ nodes_of (length s₂)
  few-rows =
      let n : length (apply [] m (table_of s)) ≤ nodes_of (length s) = few-after m (table_of s) (nodes_of (length s)) (table-rises s ok) (table-few s ok) allowed in
      subst (λ k. length (table_of s₂) ≤ k) (sym same_nodes) (subst (λ t. length t ≤ nodes_of (length s)) (sym new-table) n)

  pub still-whole : whole_nodes (length s₂) ≡ true
  still-whole = ap whole_nodes (appended.size ∙ roomy.length_same) ∙ whole

  pub edited : Counted s₂ s₃ → Edited s s₃ w w₁ m
  edited f =
      record {
        is_sound = f.is_sound;
        table = f.table ∙ new-table;
        size = f.size ∙ appended.size ∙ roomy.length_same;
        area = roomy.area;
      }

-- THE CALLS
module _ (s w : List ℕ) (whole : whole_nodes (length s) ≡ true) (ok : sound s ≡ true) (long : work_per_node * nodes_of (length s) ≤ length w) where
  number_by : (a : Act) → first_no_on s (acts a w) ≡ first_no (act_questions (nodes_of (length s)) a (table_of s))
  unfolding later_no node_questions questions
  number_by a = later-number s to_act whole long ok

  -- a clear of the empty path leaves a store as one just made
  pub clear_all : (p : List ℕ) → length p ≡ 0 → (s' : List ℕ) → s' ≡ emptied s → Acted s (acts (calls.clear p) w) (Ok tt) s' w w
  unfolding act_questions first_no table_after act_table Besides same
  clear_all [] h s' e =
      let made : Made s' = subst Made (sym e) (emptied-made s whole) in
      acted-done s s' w to_act (number_by (calls.clear [])) made.is_sound (made.empty ∙ sym (clear-empty (table_of s))) (ap length e ∙ emptied-length s whole) (inl refl) tt
  clear_all (b ∷ p) h s' e = absurd (omega arith)

  module _ (p : List ℕ) (x : Bool) (x-is : x ≡ well_formed p) where
    pub put-malformed : (v : List ℕ) → x ≡ false → Acted s (acts (calls.put p v) w) (Err Refusal.Malformed) s w w
    unfolding act_questions first_no refusal_number
    put-malformed v f = acted-refused s Refusal.Malformed to_act (number_by (calls.put p v) ∙ rw (sym x-is ∙ f) refl)

    pub drop-malformed : x ≡ false → Acted s (acts (calls.drops p) w) (Err Refusal.Malformed) s w w
    unfolding act_questions first_no refusal_number
    drop-malformed f = acted-refused s Refusal.Malformed to_act (number_by (calls.drops p) ∙ rw (sym x-is ∙ f) refl)

    pub clear-malformed : (length p ≡ 0 → ⊥) → x ≡ false → Acted s (acts (calls.clear p) w) (Err Refusal.Malformed) s w w
    unfolding act_questions first_no refusal_number
    clear-malformed some f = acted-refused s Refusal.Malformed to_act (number_by (calls.clear p) ∙ rw (sym (some-fed x p some x-is) ∙ f) refl)

    module _ (x-yes : x ≡ true) where
      pub drop-done : (s' w' : List ℕ) → Edited s s' w w' (drops p) → Acted s (acts (calls.drops p) w) (Ok tt) s' w w'
      unfolding act_questions first_no apply table_after act_table Besides
      drop-done s' w' e =
          acted-done s s' w' to_act (number_by (calls.drops p) ∙ rw (sym x-is ∙ x-yes) refl) e.is_sound e.table e.size e.area tt

      pub clear-done : (length p ≡ 0 → ⊥) → (s' w' : List ℕ) → Edited s s' w w' (clears p) → Acted s (acts (calls.clear p) w) (Ok tt) s' w w'
      unfolding act_questions first_no apply table_after act_table Besides
      clear-done some s' w' e =
          acted-done s s' w' to_act (number_by (calls.clear p) ∙ rw (sym (some-fed x p some x-is) ∙ x-yes) refl) e.is_sound e.table e.size e.area tt

      pub put-long : (v : List ℕ) → value_limit < length v → Acted s (acts (calls.put p v) w) (Err Refusal.LongValue) s w w
      unfolding act_questions first_no refusal_number value_fits
      put-long v h = acted-refused s Refusal.LongValue to_act (number_by (calls.put p v) ∙ rw (sym x-is ∙ x-yes, lt-leb (length v) value_limit h) refl)

      -- the count of paths once this one has a value decides question 10
      module _ (v : List ℕ) (short : length v ≤ value_limit) (count n : ℕ) (n-is : n ≡ length s / 1024) (counted : CountWith p (table_of s) count) where
        place : leb count n ≡ is_some (find p (table_of s)) || ltb (length (table_of s)) (nodes_of (length s))
        place =
            let z : n ≡ nodes_of (length s) = n-is ∙ nodes-are (length s) in
            ap (leb count) z ∙ place-told p (table_of s) (nodes_of (length s)) count (table-rises s ok) (table-few s ok) counted

        pub put_full : n < count → Acted s (acts (calls.put p v) w) (Err Refusal.Full) s w w
        unfolding act_questions first_no refusal_number value_fits
        put_full h =
            acted-refused s Refusal.Full to_act (number_by (calls.put p v) ∙ rw (sym x-is ∙ x-yes, le-leb (length v) value_limit short, sym place ∙ lt-leb count n h) refl)

        module _ (h : count ≤ n) where
          left : is_some (find p (table_of s)) || ltb (length (table_of s)) (nodes_of (length s)) ≡ true
          left = sym place ∙ le-leb count n h

          pub put-done : (s' w' : List ℕ) → Edited s s' w w' (puts p v) → Acted s (acts (calls.put p v) w) (Ok tt) s' w w'
          unfolding act_questions first_no apply table_after act_table Besides value_fits
          put-done s' w' e =
              acted-done s s' w' to_act (number_by (calls.put p v) ∙ rw (sym x-is ∙ x-yes, le-leb (length v) value_limit short, left) refl) e.is_sound e.table e.size e.area tt

          pub put-fits : Allowed (puts p v) (table_of s) (nodes_of (length s))
          unfolding value_fits
          put-fits = put-allowed p v (table_of s) (nodes_of (length s)) (sym x-is ∙ x-yes) (le-leb (length v) value_limit short) left

      pub drop-fits : Allowed (drops p) (table_of s) (nodes_of (length s))
      drop-fits = drop-allowed p (table_of s) (nodes_of (length s)) (sym x-is ∙ x-yes)

      pub clear-fits : Allowed (clears p) (table_of s) (nodes_of (length s))
      clear-fits = clear-allowed p (table_of s) (nodes_of (length s)) (sym x-is ∙ x-yes)

-- what the code asks between the steps
pub fits-sized : (s : List ℕ) (size size' : ℕ) (r : Option ℕ) → Fits s size r → size ≡ size' → Fits s size' r
fits-sized s size size' r f e = subst (λ k. Fits s k r) e f

pub room_whole : (s s₁ w w₁ : List ℕ) (size : ℕ) (r : Option ℕ) → whole_nodes (length s) ≡ true → Roomy s s₁ w w₁ size r → whole_nodes (length s₁) ≡ true
room_whole s s₁ w w₁ size r whole room = ap whole_nodes room.length_same ∙ whole
