-- The rows below a path, one by one: next gives each path in turn, get its value, and the text of the rows follows.
-- Relies on: Answered (what a query finds), laws/Follow (what follows a path in a rising table), laws/Formed (what follows the empty one).
use Rattle.std.specs.Prelude.{ℕ, ◌+◌, ◌*◌, ◌-◌, ◌<◌, ◌≤◌, ◌≡◌, refl, List, [], ◌∷◌, ◌++◌, Bool, true, false, cond, length, take, drop, Result, Ok, Err}
use Rattle.image.specs.Prelude.{sym, ap, ap₂, subst, ◌∙◌, append_assoc, false≢true, none, some, arith, length-append, length-take-le}
use Rattle.image.specs.Bytes.{same, before, begins}
use Rattle.image.specs.Path.{well_formed, path_or_empty, reads_on, value_limit}
use Rattle.image.specs.Table.{Row, find, is_some, rows_below, rows_after, first_key, least_after, leads, rising}
use Rattle.image.specs.Image.{nodes_of}
use Rattle.image.specs.Sound.{sound, table_of}
use Rattle.image.specs.Calls.{asks, get, next, found_by}
use Rattle.image.specs.Contract.{Meets}
use Rattle.image.specs.Answers.{found_answer}
use Rattle.image.specs.declared.Refusal.{Refusal}
use Rattle.octets.specs.Order.{and_left, and_right, same_refl, same-eq}
use Rattle.laws.specs.Frame.{or_right}
use Rattle.laws.specs.Tables.{find-yes, find-no}
use Rattle.laws.specs.ValuesFit.{table_fits, found-fits}
use Rattle.laws.specs.Rising.{find-leads}
use Rattle.laws.specs.Follow.{after-step, table-rises}
use Rattle.laws.specs.Formed.{rows-follow}
use Rattle.laws.specs.Filter.{keep, keep-below, below-rises}
use Rattle.successor.specs.Present.{Next, next-found}
use Rattle.query.specs.Asked.{paths_fit}
use Rattle.image.specs.Program.{space, slash, line_feed, exchanged, path_text, value_text, end_text, refused_text, row_text, rows_text, list_text, listing, command_text, command_table}
use Rattle.script.specs.Writing.{Wrote, wrote-within, exchanged-length}
use Rattle.script.specs.Reading.{text-short}
use Rattle.script.specs.Answered.{Held, Answered, took, left, row_limit, list_limit}
use Rattle.query.specs.Steps.{get-room, next-room}
use Rattle.laws.specs.ButLive.{sound-parts, live-is}

-- THE TABLE
after-keep : (q : List ℕ) (t : List Row) → rows_after q t ≡ keep (before q) t
unfolding rows_after keep
after-keep q [] = refl
after-keep q (r ∷ t) = ap (λ u. cond (before q r.key) (r ∷ u) u) (after-keep q t)

-- what a filter of a rising table finds, the table finds
find-keep : (test : List ℕ → Bool) (k v : List ℕ) (t : List Row) → rising t ≡ true → find k (keep test t) ≡ some v → find k t ≡ some v
unfolding keep rising
find-keep test k v [] e h = h
find-keep test k v (x ∷ t) e h = go (same k x.key) refl (test x.key) refl (find-keep test k v t (and_right (leads x.key t) _ e))
  where
    go : (a : Bool) → same k x.key ≡ a → (b : Bool) → test x.key ≡ b → (find k (keep test t) ≡ some v → find k t ≡ some v) → find k (x ∷ t) ≡ some v
    go true f true g ih =
        let z : find k (x ∷ keep test t) ≡ some v = rw g at h in
        find-yes k x t f ∙ sym (find-yes k x (keep test t) f) ∙ z
    go true f false g ih =
        let z : find k (keep test t) ≡ some v = rw g at h in
        let y : find x.key t ≡ none = find-leads x.key t (and_right (leads x.key t) _ e) (and_left _ _ e) in
        let w : none ≡ some v = sym y ∙ ap (λ m. find m t) (sym (same-eq k x.key f)) ∙ ih z in
        let o : ◌≡◌ {A = ℕ} 0 1 = cc in absurd (omega arith)
    go false f true g ih =
        let z : find k (x ∷ keep test t) ≡ some v = rw g at h in
        find-no k x t f ∙ ih (sym (find-no k x (keep test t) f) ∙ z)
    go false f false g ih =
        let z : find k (keep test t) ≡ some v = rw g at h in
        find-no k x t f ∙ ih z

-- the rows of a walk: those below p and greater than q
abbrev pub ahead : List ℕ → List ℕ → List Row → List Row
ahead p q t = rows_after q (rows_below p t)

row-found : (p q : List ℕ) (t : List Row) (r : Row) (u : List Row) → rising t ≡ true → ahead p q t ≡ r ∷ u → find r.key t ≡ some r.value
row-found p q t r u e f =
    let a : find r.key (keep (before q) (rows_below p t)) ≡ some r.value
    = ap (find r.key) (sym (after-keep q (rows_below p t)) ∙ f) ∙ find-yes r.key r u (same_refl r.key) in
    let b : find r.key (rows_below p t) ≡ some r.value = find-keep (before q) r.key r.value (rows_below p t) (below-rises p t e) a in
    find-keep (begins p) r.key r.value t e (ap (find r.key) (sym (keep-below p t)) ∙ b)

-- a table of a sound store of 64 nodes has at most 64 rows, and so do those below a path
keep-fewer : (test : List ℕ → Bool) (t : List Row) → length (keep test t) ≤ length t
unfolding keep
keep-fewer test [] = omega arith
keep-fewer test (r ∷ t) = go (test r.key) refl (keep-fewer test t)
  where
    go : (x : Bool) → test r.key ≡ x → length (keep test t) ≤ length t → length (keep test (r ∷ t)) ≤ length (r ∷ t)
    go true e ih = rw e (omega arith)
    go false e ih = rw e (omega arith)

few-rows : (s : List ℕ) → length s ≡ 65536 → sound s ≡ true → length (table_of s) ≤ 64
few-rows s n e =
    let low = (sound-parts s e).live_high in
    let same_count = live-is s e in
    let nodes : nodes_of (length s) ≡ 64 = ap nodes_of n ∙ (unfold nodes_of in refl) in
    omega arith

below-few : (s p : List ℕ) → length s ≡ 65536 → sound s ≡ true → length (rows_below p (table_of s)) ≤ 64
below-few s p n e =
    let a = few-rows s n e in
    let b = keep-fewer (begins p) (table_of s) in
    let c = ap length (keep-below p (table_of s)) in
    omega arith

-- ONE ROW
formed-long : (k : List ℕ) → well_formed k ≡ true → 1 ≤ length k
formed-long [] f = absurd (false≢true (unfold well_formed reads_on in f))
formed-long (b ∷ k) f = omega arith

-- a path that the store holds
pub record Present (s path : List ℕ) : Type 0 where
  pub there : is_some (find path (table_of s)) ≡ true
  pub formed : well_formed path ≡ true
  pub some_bytes : 1 ≤ length path
  pub short : length path ≤ 64

-- its line, whatever its value is
pub record RowWrote (s path out : List ℕ) (at r : ℕ) (out' : List ℕ) : Type 0 where
  pub row : (v : List ℕ) → find path (table_of s) ≡ some v → Wrote out at (row_text (record { key = path; value = v })) r out'

pub path-part : (path : List ℕ) (n : ℕ) → n ≡ length path - 1 → exchanged 0 slash (take (n - 0) (drop 0 path)) ≡ path_text path
unfolding path_text
path-part path n e = let z : n - 0 ≡ length path - 1 = omega arith in ap (λ k. exchanged 0 slash (take k path)) z

pub path-short : (path : List ℕ) → length path ≤ 64 → 1 ≤ length path → length (path_text path) ≤ 63
unfolding path_text
path-short path h k =
    let a = exchanged-length 0 slash (take (length path - 1) path) in
    let b = length-take-le (length path - 1) path (omega arith) in
    omega arith

pub row-short : (path v : List ℕ) → length path ≤ 64 → 1 ≤ length path → length v ≤ value_limit → length (row_text (record { key = path; value = v })) ≤ row_limit
unfolding row_text
row-short path v h k l =
    let a = length-append (path_text path) (space ∷ (value_text v ++ (line_feed ∷ []))) in
    let b = length-append (value_text v) (line_feed ∷ []) in
    let c = text-short v l in
    let d = path-short path h k in
    omega arith

-- get's questions 3 and 5
pub get-asked : (path : List ℕ) → well_formed path ≡ true → paths_fit (get path) ≡ true
unfolding paths_fit
get-asked path f = f

-- THE WALK
-- before each turn: the text so far and the text of the rows ahead are the whole text, for which there is room
pub record Walk (s p q : List ℕ) (at : ℕ) (out : List ℕ) : Type 0 where
  pub text : take at out ++ rows_text (ahead p q (table_of s)) ≡ rows_text (rows_below p (table_of s))
  pub room : at + row_limit * length (ahead p q (table_of s)) ≤ list_limit
  pub place : path_or_empty q ≡ true

pub walk-starts : (s p out last : List ℕ) → Held s out → Walk s p (take 0 last) 0 out
unfolding same
walk-starts s p out last h =
    let a : ahead p [] (table_of s) ≡ rows_below p (table_of s) = rows-follow s h.is_sound p in
    let b = below-few s p h.nodes h.is_sound in
    let c = ap length a in
    record { text = ap rows_text a; room = omega arith; place = refl }

-- next's questions 3 and 5
next-asked : (p q : List ℕ) → path_or_empty p ≡ true → path_or_empty q ≡ true → paths_fit (next p q) ≡ true
unfolding paths_fit
next-asked p q f e = rw (f, e) refl

-- the row that comes next
record Onward (rs : List Row) (k : List ℕ) : Type 0 where
  row : Row
  later : List Row
  is : rs ≡ row ∷ later
  key : row.key ≡ k

onward : (rs : List Row) (k : List ℕ) → first_key rs ≡ some k → Onward rs k
unfolding first_key
onward [] k e = let o : ◌≡◌ {A = ℕ} 0 1 = cc in absurd (omega arith)
onward (r ∷ rs) k e = record { row = r; later = rs; is = refl; key = cc }

none_ahead : (rs : List Row) → first_key rs ≡ none → rs ≡ []
unfolding first_key
none_ahead [] e = refl
none_ahead (r ∷ rs) e = let o : ◌≡◌ {A = ℕ} 0 1 = cc in absurd (omega arith)

module _ (s p q : List ℕ) (at : ℕ) (out buffer : List ℕ) (h : Held s out) (formed : path_or_empty p ≡ true) (w : Walk s p q at out) (long : 64 ≤ length buffer)
    (f : Result ℕ Refusal) (buffer' : List ℕ) (m : Meets s (asks (next p q) buffer) (found_answer f buffer') s []) where
  -- next refused: no row is left
  pub walk_ends : (r : Refusal) → f ≡ Err r → (end : ℕ) (out' : List ℕ) → Wrote out at end_text end out' → Wrote out 0 (rows_text (rows_below p (table_of s))) end out'
  unfolding found_by least_after rows_text
  walk_ends r e end out' x =
      let z : ahead p q (table_of s) ≡ []
      = none_ahead _ (left s out h (next p q) buffer (next-asked p q formed w.place) (next-room p q buffer long) f buffer' m r e) in
      let whole : take at out ++ end_text ≡ rows_text (rows_below p (table_of s)) = ap (λ u. take at out ++ rows_text u) (sym z) ∙ w.text in
      let a = ap length whole in
      let b = length-append (take at out) end_text in
      let c = length-take-le at out (omega (arith, w.room, h.page)) in
      record { bytes = x.bytes ∙ whole; ends = omega (arith, x.ends) }

  module _ (n : ℕ) (e : f ≡ Ok n) where
    first : (least_after p q (table_of s) ≡ some (take n buffer')) × (length (take n buffer') ≡ n)
    unfolding found_by
    first = took s out h (next p q) buffer (next-asked p q formed w.place) (next-room p q buffer long) f buffer' m n e

    found : Next s p q (take n buffer')
    found = next-found s p q (take n buffer') h.is_sound first.0

    turn : Onward (ahead p q (table_of s)) (take n buffer')
    unfolding least_after
    turn = onward _ _ first.0

    here : find (take n buffer') (table_of s) ≡ some turn.row.value
    here = ap (λ k. find k (table_of s)) (sym turn.key) ∙ row-found p q (table_of s) turn.row turn.later (table-rises s h.is_sound) turn.is

    pub key-short : n ≤ 64
    key-short = omega (arith, found.short, first.1)

    -- there is a row, and room for its line
    pub row-present : Present s (take n buffer')
    unfolding is_some
    row-present =
        record { there = rw here refl; formed = found.formed; some_bytes = formed-long _ found.formed; short = found.short }

    pub row_room : at + row_limit ≤ list_limit
    row_room = let a = ap length turn.is in omega (arith, w.room)

    rest-ahead : ahead p (take n buffer') (table_of s) ≡ turn.later
    rest-ahead =
        ap (λ k. ahead p k (table_of s)) (sym turn.key)
        ∙ after-step q (rows_below p (table_of s)) turn.row turn.later (below-rises p (table_of s) (table-rises s h.is_sound)) turn.is

    pub walk-shortens : length (ahead p (take n buffer') (table_of s)) < length (ahead p q (table_of s))
    walk-shortens = let a = ap length rest-ahead in let b = ap length turn.is in omega arith

    pub walk-goes-on : (at' : ℕ) (out' : List ℕ) → RowWrote s (take n buffer') out at at' out' → Walk s p (take n buffer') at' out'
    unfolding rows_text
    walk-goes-on at' out' x =
        let wrote : Wrote out at (row_text (record { key = take n buffer'; value = turn.row.value })) at' out' = x.row turn.row.value here in
        let same_row : row_text (record { key = take n buffer'; value = turn.row.value }) ≡ row_text turn.row
        = ap (λ k. row_text (record { key = k; value = turn.row.value })) (sym turn.key) in
        let value-short : length turn.row.value ≤ value_limit = found-fits (take n buffer') turn.row.value (table_of s) (table_fits s h.is_sound) here in
        let short = row-short (take n buffer') turn.row.value found.short (formed-long _ found.formed) value-short in
        let a = ap length rest-ahead in
        let b = ap length turn.is in
        record {
          text =
              ap₂ (λ l u. l ++ rows_text u) wrote.bytes rest-ahead
              ∙ append_assoc (take at out) (row_text (record { key = take n buffer'; value = turn.row.value })) (rows_text turn.later)
              ∙ ap (λ l. take at out ++ (l ++ rows_text turn.later)) same_row
              ∙ ap (λ u. take at out ++ rows_text u) (sym turn.is)
              ∙ w.text;
          room = omega (arith, w.room, wrote.ends);
          place = or_right (same (take n buffer') []) (well_formed (take n buffer')) found.formed;
        }

    -- the same of the part that is lent
    part : take n buffer' ≡ take (n - 0) (drop 0 buffer')
    part = let z : n ≡ n - 0 = omega arith in ap (λ k. take k buffer') z

    pub part-present : Present s (take (n - 0) (drop 0 buffer'))
    part-present = subst (λ k. Present s k) part row-present

    pub part-shortens : length (ahead p (take (n - 0) (drop 0 buffer')) (table_of s)) < length (ahead p q (table_of s))
    part-shortens = subst (λ k. length (ahead p k (table_of s)) < length (ahead p q (table_of s))) part walk-shortens

    pub part-goes-on : (at' : ℕ) (out' : List ℕ) → RowWrote s (take (n - 0) (drop 0 buffer')) out at at' out' → Walk s p (take (n - 0) (drop 0 buffer')) at' out'
    part-goes-on at' out' x = subst (λ k. Walk s p k at' out') part (walk-goes-on at' out' (subst (λ k. RowWrote s k out at at' out') (sym part) x))

-- the value of a row that is present
pub row-value : (s path out buffer : List ℕ) (f : Result ℕ Refusal) (buffer' : List ℕ) (n : ℕ) → Held s out → Present s path → value_limit ≤ length buffer
    → Meets s (asks (get path) buffer) (found_answer f buffer') s [] → f ≡ Ok n → find path (table_of s) ≡ some (take n buffer')
unfolding found_by
row-value s path out buffer f buffer' n h x l m e = (took s out h (get path) buffer (get-asked path x.formed) (get-room path buffer l) f buffer' m n e).0

pub row-refused : (s path out buffer : List ℕ) (f : Result ℕ Refusal) (buffer' : List ℕ) (r : Refusal) → Held s out → Present s path → value_limit ≤ length buffer
    → Meets s (asks (get path) buffer) (found_answer f buffer') s [] → f ≡ Err r → ⊥
unfolding found_by is_some
row-refused s path out buffer f buffer' r h x l m e =
    let z : find path (table_of s) ≡ none = left s out h (get path) buffer (get-asked path x.formed) (get-room path buffer l) f buffer' m r e in
    false≢true (ap is_some (sym z) ∙ x.there)

-- LIST
pub list-answered : (s p out₁ : List ℕ) (r : ℕ) (out' out : List ℕ) → Held s out → path_or_empty p ≡ true → Wrote out₁ 0 (rows_text (rows_below p (table_of s))) r out' → Answered s (listing p) r out' s
unfolding command_text command_table list_text
list-answered s p out₁ r out' out h f w =
    record { text = w.bytes ∙ rw f refl; fits = wrote-within out₁ (rows_text (rows_below p (table_of s))) r out' w; table = refl; still_sound = h.is_sound; size = refl }

pub list-refused : (s p out₁ : List ℕ) (r : ℕ) (out' out : List ℕ) → Held s out → path_or_empty p ≡ false → Wrote out₁ 0 (refused_text 3) r out' → Answered s (listing p) r out' s
unfolding command_text command_table list_text
list-refused s p out₁ r out' out h f w =
    record { text = w.bytes ∙ rw f refl; fits = wrote-within out₁ (refused_text 3) r out' w; table = refl; still_sound = h.is_sound; size = refl }
