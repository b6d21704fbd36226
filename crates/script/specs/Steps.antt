-- The steps of the writers and of the answers: one law for each way out of the code.
use Rattle.std.specs.Prelude.{ℕ, ◌+◌, ◌*◌, ◌-◌, ◌/◌, ◌%◌, ◌<◌, ◌≤◌, ◌≡◌, List, [], ◌∷◌, ◌++◌, Bool, true, false, not, length, take, drop, Result, Ok, Err, Some, None}
use Rattle.std.specs.Prelude as std
use Rattle.image.specs.Prelude.{sym, ap, ap₂, ◌∙◌, Option, none, some, arith, length-take, lt-ltb, le-ltb, eq-eqb, ne_eqb, not-true, not-false}
use Rattle.image.specs.Bytes.{same}
use Rattle.image.specs.Path.{path_or_empty, value_limit}
use Rattle.image.specs.Table.{rows_below}
use Rattle.image.specs.Sound.{table_of}
use Rattle.image.specs.Calls.{put, drops, clear, move, settle, tidy, acts, asks, get}
use Rattle.image.specs.Contract.{Meets}
use Rattle.image.specs.Answers.{refusal_number, outcome_answer, found_answer}
use Rattle.image.specs.declared.Refusal.{Refusal}
use Rattle.query.specs.Asked.{found_length}
use Rattle.image.specs.Program.{acting, getting, listing, putting, path_of, value_of, word_alone, word_and_path, word_and_two, bad_text, ok_text, decimal, refused_text, answer_text, hex_text, value_text, value_buffer, exchanged, path_text, row_text, rows_text, put_word, drop_word, clear_word, get_word, list_word, move_word, settle_word, tidy_word}
use Rattle.script.specs.Writing.{Wrote, wrote_on, wrote_as, exchanged-length}
use Rattle.script.specs.Reading.{Front, Parsed, value_read, read_length, empty-text, some-text, text-short}
use Rattle.script.specs.Answered.{Held, Answered, answered-as, done-text, refusal-text, value-text, absent-text, act-answered, get-answered, bad-answered, get-short}
use Rattle.script.specs.Rows.{Present, RowWrote, path-part, row-value, row-refused, list-answered, list-refused}
use Rattle.script.specs.Line.{path_command, two_command}

-- NUMBERS
module _ (k : ℕ) (out : List ℕ) (at : ℕ) where
  pub one-digit : k < 10 → (r : ℕ) (out' : List ℕ) → Wrote out at ((48 + k) ∷ []) r out' → Wrote out at (decimal k) r out'
  unfolding decimal
  one-digit h r out' w = rw (lt-ltb k 10 h) w

  pub two_digits : 10 ≤ k → (m : ℕ) (out₁ : List ℕ) (r : ℕ) (out' : List ℕ) → Wrote out at ((48 + k / 10) ∷ []) m out₁ → Wrote out₁ m ((48 + k % 10) ∷ []) r out'
      → Wrote out at (decimal k) r out'
  unfolding decimal
  two_digits h m out₁ r out' w v = rw (le-ltb k 10 h) (wrote_on out at _ m out₁ _ r out' w v)

pub refused-wrote : (k : ℕ) (out : List ℕ) (at : ℕ) (out₁ : List ℕ) (end : ℕ) (out₂ : List ℕ) (r : ℕ) (out' : List ℕ)
    → Wrote out 0 (0x72 ∷ 0x65 ∷ 0x66 ∷ 0x75 ∷ 0x73 ∷ 0x65 ∷ 0x64 ∷ 0x20 ∷ []) at out₁ → Wrote out₁ at (decimal k) end out₂ → Wrote out₂ end (10 ∷ []) r out'
    → Wrote out 0 (refused_text k) r out'
unfolding refused_text
refused-wrote k out at out₁ end out₂ r out' a b c = wrote_on out 0 _ at out₁ _ r out' a (wrote_on out₁ at _ end out₂ _ r out' b c)

-- ANSWERS
module _ (out : List ℕ) (r : ℕ) (out' : List ℕ) where
  pub done-wrote : (o : Result (Unit {0}) Refusal) → o ≡ Ok tt → Wrote out 0 (0x6F ∷ 0x6B ∷ 10 ∷ []) r out' → Wrote out 0 (answer_text (outcome_answer o)) r out'
  unfolding ok_text
  done-wrote o e w = wrote_as out 0 _ _ r out' (done-text o e) w

  pub refusal-wrote : (o : Result (Unit {0}) Refusal) (x : Refusal) (k : ℕ) → o ≡ Err x → k ≡ refusal_number x → Wrote out 0 (refused_text k) r out'
      → Wrote out 0 (answer_text (outcome_answer o)) r out'
  refusal-wrote o x k e f w = wrote_as out 0 _ _ r out' (refusal-text o x k e f) w

  pub absent-wrote : (f : Result ℕ Refusal) (v : List ℕ) (x : Refusal) (k : ℕ) → f ≡ Err x → k ≡ refusal_number x → Wrote out 0 (refused_text k) r out'
      → Wrote out 0 (answer_text (found_answer f v)) r out'
  absent-wrote f v x k e g w = wrote_as out 0 _ _ r out' (absent-text f x k v e g) w

  pub value-wrote : (f : Result ℕ Refusal) (v : List ℕ) (n : ℕ) → f ≡ Ok n → (m : ℕ) (out₁ : List ℕ) → Wrote out 0 (value_text (take (n - 0) (drop 0 v))) m out₁
      → Wrote out₁ m (10 ∷ []) r out' → Wrote out 0 (answer_text (found_answer f v)) r out'
  value-wrote f v n e m out₁ a b =
      let z : n ≡ n - 0 = omega arith in
      wrote_as out 0 _ _ r out' (ap (λ k. value_text (take k v) ++ (10 ∷ [])) (sym z) ∙ value-text f n v e) (wrote_on out 0 _ m out₁ _ r out' a b)

  pub empty-wrote : (at : ℕ) (v : List ℕ) → length v ≡ 0 → Wrote out at (0x2D ∷ []) r out' → Wrote out at (value_text v) r out'
  empty-wrote at v e w = wrote_as out at _ _ r out' (empty-text v e) w

  pub hex-wrote : (at : ℕ) (v : List ℕ) → (length v ≡ 0 → ⊥) → Wrote out at (hex_text v) r out' → Wrote out at (value_text v) r out'
  hex-wrote at v e w = wrote_as out at _ _ r out' (some-text v e) w

-- what was found lies within its buffer
pub found-length : (f : Result ℕ Refusal) (n m : ℕ) → f ≡ Ok n → found_length f ≤ m → n ≤ m
unfolding found_length
found-length f n m e h = rw e at h

pub part-short : (v : List ℕ) (n m : ℕ) → n ≤ m → length (take (n - 0) (drop 0 v)) ≤ m
part-short v n m h = let a = length-take (n - 0) v in omega arith

pub value-ends : (out : List ℕ) (at : ℕ) (v : List ℕ) (r : ℕ) (out' : List ℕ) → Wrote out at (value_text v) r out' → length v ≤ value_limit → r ≤ at + 2 * value_limit
value-ends out at v r out' w h = let a = text-short v h in omega (arith, w.ends)

-- A ROW
module _ (s path out : List ℕ) (at : ℕ) (h : Held s out) (x : Present s path) (last : ℕ) (last-is : last ≡ length path - 1) (gap : ℕ) (out₁ : List ℕ)
    (w : Wrote out at (exchanged 0 47 (take (last - 0) (drop 0 path))) gap out₁) where
  pub gap_ends : gap ≤ at + 63
  gap_ends =
      let a = exchanged-length 0 47 (take (last - 0) (drop 0 path)) in
      let b = length-take (last - 0) path in
      omega (arith, w.ends, x.short, x.some_bytes)

  module _ (start : ℕ) (out₂ : List ℕ) (v : Wrote out₁ gap (32 ∷ []) start out₂) where
    pub start-ends : start ≤ at + 64
    start-ends = omega (arith, v.ends, gap_ends)

    module _ (f : Result ℕ Refusal) (buffer buffer' : List ℕ) (m : Meets s (asks (get path) buffer) (found_answer f buffer') s []) (long : length buffer ≡ value_limit) where
      pub row-absent : (k : Refusal) → f ≡ Err k → (r : ℕ) (out' : List ℕ) → RowWrote s path out at r out'
      row-absent k e r out' = record { row = λ y z. absurd (row-refused s path out buffer f buffer' k h x (omega arith) m e) }

      pub row_fits : (n : ℕ) → f ≡ Ok n → n ≤ value_limit
      row_fits n e = found-length f n value_limit e (get-short s out h path buffer f buffer' m)

      pub row_wrote : (n : ℕ) → f ≡ Ok n → (stop : ℕ) (out₃ : List ℕ) → Wrote out₂ start (value_text (take (n - 0) (drop 0 buffer'))) stop out₃
          → (r : ℕ) (out' : List ℕ) → Wrote out₃ stop (10 ∷ []) r out' → RowWrote s path out at r out'
      unfolding row_text
      row_wrote n e stop out₃ a r out' b =
          record {
            row = λ y z.
                let is : some (take n buffer') ≡ some y = sym (row-value s path out buffer f buffer' n h x (omega arith) m e) ∙ z in
                let value : take n buffer' ≡ y = cc in
                let n-is : n - 0 ≡ n = omega arith in
                let text : value_text (take (n - 0) (drop 0 buffer')) ≡ value_text y = ap (λ k. value_text (take k buffer')) n-is ∙ ap value_text value in
                let key : exchanged 0 47 (take (last - 0) (drop 0 path)) ≡ path_text path = path-part path last last-is in
                wrote_on out at _ gap out₁ _ r out' (wrote_as out at _ _ gap out₁ key w)
                (wrote_on out₁ gap _ start out₂ _ r out' v (wrote_on out₂ start _ stop out₃ _ r out' (wrote_as out₂ start _ _ stop out₃ text a) b));
          }

-- THE WORDS
module _ (s out : List ℕ) (h : Held s out) (w : List ℕ) (r : ℕ) (out' s' : List ℕ) where
  pub word-settle : (x : Bool) → x ≡ same w settle_word → x ≡ true → Answered s (acting settle) r out' s' → Answered s (word_alone w) r out' s'
  unfolding word_alone
  word-settle x e f a = rw (sym e ∙ f) a

  pub word-tidy : (x : Bool) → x ≡ same w settle_word → x ≡ false → (y : Bool) → y ≡ same w tidy_word → y ≡ true → Answered s (acting tidy) r out' s' → Answered s (word_alone w) r out' s'
  unfolding word_alone
  word-tidy x e f y g k a = rw (sym e ∙ f, sym g ∙ k) a

  pub word-bad : (x : Bool) → x ≡ same w settle_word → x ≡ false → (y : Bool) → y ≡ same w tidy_word → y ≡ false → (out₁ : List ℕ) → Wrote out₁ 0 bad_text r out' → Answered s (word_alone w) r out' s
  unfolding word_alone
  word-bad x e f y g k out₁ a = rw (sym e ∙ f, sym g ∙ k) (bad-answered s out h out₁ r out' a)

  module _ (p : List ℕ) where
    pub path_empty : length p ≡ 0 → (out₁ : List ℕ) → Wrote out₁ 0 bad_text r out' → Answered s (path_command w p) r out' s
    unfolding path_command
    path_empty e out₁ a = rw (eq-eqb (length p) 0 e) (bad-answered s out h out₁ r out' a)

    module _ (some_bytes : length p ≡ 0 → ⊥) (d : Bool) (d-is : d ≡ same w drop_word) where
      pub path-drop : d ≡ true → Answered s (acting (drops (path_of p))) r out' s' → Answered s (path_command w p) r out' s'
      unfolding path_command word_and_path
      path-drop f a = rw (ne_eqb (length p) 0 some_bytes, sym d-is ∙ f) a

      module _ (d-no : d ≡ false) (c : Bool) (c-is : c ≡ same w clear_word) where
        pub path-clear : c ≡ true → Answered s (acting (clear (path_of p))) r out' s' → Answered s (path_command w p) r out' s'
        unfolding path_command word_and_path
        path-clear f a = rw (ne_eqb (length p) 0 some_bytes, sym d-is ∙ d-no, sym c-is ∙ f) a

        module _ (c-no : c ≡ false) (g : Bool) (g-is : g ≡ same w get_word) where
          pub path-get : g ≡ true → Answered s (getting (path_of p)) r out' s → Answered s (path_command w p) r out' s
          unfolding path_command word_and_path
          path-get f a = rw (ne_eqb (length p) 0 some_bytes, sym d-is ∙ d-no, sym c-is ∙ c-no, sym g-is ∙ f) a

          module _ (g-no : g ≡ false) (l : Bool) (l-is : l ≡ same w list_word) where
            pub path-list : l ≡ true → Answered s (listing (path_of p)) r out' s → Answered s (path_command w p) r out' s
            unfolding path_command word_and_path
            path-list f a = rw (ne_eqb (length p) 0 some_bytes, sym d-is ∙ d-no, sym c-is ∙ c-no, sym g-is ∙ g-no, sym l-is ∙ f) a

            pub path-bad : l ≡ false → (out₁ : List ℕ) → Wrote out₁ 0 bad_text r out' → Answered s (path_command w p) r out' s
            unfolding path_command word_and_path
            path-bad f out₁ a = rw (ne_eqb (length p) 0 some_bytes, sym d-is ∙ d-no, sym c-is ∙ c-no, sym g-is ∙ g-no, sym l-is ∙ f) (bad-answered s out h out₁ r out' a)

  module _ (p q : List ℕ) where
    pub two-first-empty : length p ≡ 0 → (out₁ : List ℕ) → Wrote out₁ 0 bad_text r out' → Answered s (two_command w p q) r out' s
    unfolding two_command
    two-first-empty e out₁ a = rw (eq-eqb (length p) 0 e) (bad-answered s out h out₁ r out' a)

    module _ (p-some : length p ≡ 0 → ⊥) where
      pub two-second-empty : length q ≡ 0 → (out₁ : List ℕ) → Wrote out₁ 0 bad_text r out' → Answered s (two_command w p q) r out' s
      unfolding two_command
      two-second-empty e out₁ a = rw (ne_eqb (length p) 0 p-some, eq-eqb (length q) 0 e) (bad-answered s out h out₁ r out' a)

      module _ (q-some : length q ≡ 0 → ⊥) (x : Bool) (x-is : x ≡ same w put_word) where
        pub two-put : x ≡ true → Answered s (putting (path_of p) (value_of q)) r out' s' → Answered s (two_command w p q) r out' s'
        unfolding two_command word_and_two
        two-put f a = rw (ne_eqb (length p) 0 p-some, ne_eqb (length q) 0 q-some, sym x-is ∙ f) a

        module _ (x-no : x ≡ false) (y : Bool) (y-is : y ≡ same w move_word) where
          pub two-move : y ≡ true → Answered s (acting (move (path_of p) (path_of q))) r out' s' → Answered s (two_command w p q) r out' s'
          unfolding two_command word_and_two
          two-move f a = rw (ne_eqb (length p) 0 p-some, ne_eqb (length q) 0 q-some, sym x-is ∙ x-no, sym y-is ∙ f) a

          pub two-bad : y ≡ false → (out₁ : List ℕ) → Wrote out₁ 0 bad_text r out' → Answered s (two_command w p q) r out' s
          unfolding two_command word_and_two
          two-bad f out₁ a = rw (ne_eqb (length p) 0 p-some, ne_eqb (length q) 0 q-some, sym x-is ∙ x-no, sym y-is ∙ f) (bad-answered s out h out₁ r out' a)

-- THE CALLS
-- the path that is lent is the text's
front-part : (bytes : List ℕ) (n : ℕ) (buffer : List ℕ) → Front bytes n buffer → take (n - 0) (drop 0 buffer) ≡ bytes
front-part bytes n buffer f = let z : n - 0 ≡ n = omega arith in ap (λ k. take k buffer) z ∙ f.is

module _ (s out : List ℕ) (h : Held s out) (text : List ℕ) (n : ℕ) (buffer : List ℕ) (f : Front (path_of text) n buffer) where
  module _ (work : List ℕ) (l : 8192 ≤ length work) (o : Result (Unit {0}) Refusal) (s' w' out₁ : List ℕ) (r : ℕ) (out' : List ℕ)
      (w : Wrote out₁ 0 (answer_text (outcome_answer o)) r out') where
    pub drop-answered : Meets s (acts (drops (take (n - 0) (drop 0 buffer))) work) (outcome_answer o) s' w' → Answered s (acting (drops (path_of text))) r out' s'
    drop-answered m =
        answered-as s _ _ r out' s' (ap (λ p. acting (drops p)) (front-part (path_of text) n buffer f)) (act-answered s out h _ work o s' w' out₁ r out' l m w)

    pub clear-answered : Meets s (acts (clear (take (n - 0) (drop 0 buffer))) work) (outcome_answer o) s' w' → Answered s (acting (clear (path_of text))) r out' s'
    clear-answered m =
        answered-as s _ _ r out' s' (ap (λ p. acting (clear p)) (front-part (path_of text) n buffer f)) (act-answered s out h _ work o s' w' out₁ r out' l m w)

    pub move-answered : (second : List ℕ) (m : ℕ) (to : List ℕ) → Front (path_of second) m to
        → Meets s (acts (move (take (n - 0) (drop 0 buffer)) (take (m - 0) (drop 0 to))) work) (outcome_answer o) s' w'
        → Answered s (acting (move (path_of text) (path_of second))) r out' s'
    move-answered second m to g x =
        answered-as s _ _ r out' s' (ap₂ (λ p q. acting (move p q)) (front-part (path_of text) n buffer f) (front-part (path_of second) m to g))
        (act-answered s out h _ work o s' w' out₁ r out' l x w)

    pub put-answered : (hex : List ℕ) (v : std.Option ℕ) (value : List ℕ) (len : ℕ) → Parsed (value_of hex) v value → v ≡ Some len
        → Meets s (acts (put (take (n - 0) (drop 0 buffer)) (take (len - 0) (drop 0 value))) work) (outcome_answer o) s' w'
        → Answered s (putting (path_of text) (value_of hex)) r out' s'
    unfolding putting value_read
    put-answered hex v value len p e m =
        let z : len - 0 ≡ len = omega arith in
        let is : value_of hex ≡ some (take (len - 0) (drop 0 value)) = sym p.is ∙ ap (λ x. value_read x value) e ∙ ap (λ k. some (take k value)) (sym z) in
        answered-as s _ _ r out' s' (ap (λ q. acting (put q (take (len - 0) (drop 0 value)))) (front-part (path_of text) n buffer f) ∙ ap (putting (path_of text)) (sym is))
        (act-answered s out h _ work o s' w' out₁ r out' l m w)

  pub get-found : (g : Result ℕ Refusal) (value : List ℕ) → Meets s (asks (get (take (n - 0) (drop 0 buffer))) value_buffer) (found_answer g value) s []
      → (out₁ : List ℕ) (r : ℕ) (out' : List ℕ) → Wrote out₁ 0 (answer_text (found_answer g value)) r out' → Answered s (getting (path_of text)) r out' s
  get-found g value m out₁ r out' w =
      answered-as s _ _ r out' s (ap getting (front-part (path_of text) n buffer f)) (get-answered s out h _ g value out₁ r out' m w)

  -- list, by whether its path is well formed or empty
  pub list-bad-path : (x : Bool) → x ≡ path_or_empty (take (n - 0) (drop 0 buffer)) → not x ≡ true → (out₁ : List ℕ) (r : ℕ) (out' : List ℕ) → Wrote out₁ 0 (refused_text 3) r out'
      → Answered s (listing (path_of text)) r out' s
  list-bad-path x e g out₁ r out' w =
      list-refused s (path_of text) out₁ r out' out h (ap path_or_empty (sym (front-part (path_of text) n buffer f)) ∙ sym e ∙ not-true x g) w

  pub list-rows : (x : Bool) → x ≡ path_or_empty (take (n - 0) (drop 0 buffer)) → not x ≡ false → (out₁ : List ℕ) (r : ℕ) (out' : List ℕ)
      → Wrote out₁ 0 (rows_text (rows_below (take (n - 0) (drop 0 buffer)) (table_of s))) r out' → Answered s (listing (path_of text)) r out' s
  list-rows x e g out₁ r out' w =
      let z : take (n - 0) (drop 0 buffer) ≡ path_of text = front-part (path_of text) n buffer f in
      list-answered s (path_of text) out₁ r out' out h (ap path_or_empty (sym z) ∙ sym e ∙ not-false x g)
      (wrote_as out₁ 0 _ _ r out' (ap (λ p. rows_text (rows_below p (table_of s))) z) w)

pub list-formed : (x : Bool) (p : List ℕ) → x ≡ path_or_empty p → not x ≡ false → path_or_empty p ≡ true
list-formed x p e g = sym e ∙ not-false x g

-- a value that does not read
pub put-bad : (s out : List ℕ) → Held s out → (path hex : List ℕ) (v : std.Option ℕ) (value : List ℕ) → Parsed (value_of hex) v value → v ≡ None
    → (out₁ : List ℕ) (r : ℕ) (out' : List ℕ) → Wrote out₁ 0 bad_text r out' → Answered s (putting path (value_of hex)) r out' s
unfolding putting value_read
put-bad s out h path hex v value p e out₁ r out' w =
    let is : value_of hex ≡ none = sym p.is ∙ ap (λ x. value_read x value) e in
    answered-as s _ _ r out' s (ap (putting path) (sym is)) (bad-answered s out h out₁ r out' w)

pub value_length : (want : Option (List ℕ)) (v : std.Option ℕ) (value : List ℕ) (len : ℕ) → Parsed want v value → v ≡ Some len → len ≤ length value
unfolding read_length
value_length want v value len p e = rw e at p.within
