-- Demand 2, nothing else can be read, and nothing is lost: after any list of calls on a sound image a path has just the value that the
-- history brought to it. The first image had it, a put gave it or a move brought it, and no call touched it since. So get and next.
-- Relies on the contracts of the calls (image), on Touches and, that lookup finds what the table has, on laws.
use Rattle.std.specs.Prelude.{ℕ, ◌≤◌, ◌≡◌, refl, List, [], ◌∷◌, ◌++◌, Bool, true, false, length, drop}
use Rattle.image.specs.Prelude.{sym, ap, ◌∙◌, false≢true, Option, none, some, Option·some-injective, Option·none-ne-some}
use Rattle.image.specs.Bytes.{same, before, begins}
use Rattle.image.specs.Path.{below, value_limit}
use Rattle.image.specs.Table.{Row, find, is_some, least_after, leads, rising}
use Rattle.image.specs.Sound.{table_of}
use Rattle.image.specs.Calls.{Call, acts, asks, put, move, get, Answer, filled, number_of, table_at}
use Rattle.image.specs.Contract.{Meets, Run, stop, call}
use Rattle.octets.specs.Order.{and_right}
use Rattle.laws.specs.Next.{Fits, least-yes, least-far, least-early, later-fits, nil-none, first-present}
use Rattle.demands.specs.Consequences.{number_is}
use Rattle.demands.specs.Touches.{touches}

-- a call that was done, with its answer
pub data Done : Type 0 where
  done : Call → Answer → Done

-- the history of a list of calls with their answers: newest first
unfoldable pub history : List Call → List Answer → List Done
history [] given = []
history (c ∷ cs) [] = []
history (c ∷ cs) (a ∷ given) = history cs given ++ done c a ∷ []

-- A history that began with the table first brought the value v to the path p.
pub data Brought (first : List Row) : List Done → List ℕ → List ℕ → Type 0 where
  -- it was there at first, and nothing is done yet
  held : {p v : List ℕ} → find p first ≡ some v → Brought first [] p v
  -- it was brought before the last call, which does not touch p
  stays : {earlier : List Done} {c : Call} {a : Answer} {p v : List ℕ} → Brought first earlier p v → touches c a p ≡ false
      → Brought first (done c a ∷ earlier) p v
  -- the last call is an accepted put of p, v
  was_put : {earlier : List Done} {work : List ℕ} {a : Answer} {p v : List ℕ} → number_of a ≡ 0
      → Brought first (done (acts (put p v) work) a ∷ earlier) p v
  -- the last call is an accepted move between two different paths, and v was brought before it to the same place below from
  was_moved : {earlier : List Done} {work : List ℕ} {a : Answer} {from to v : List ℕ} (rest : List ℕ) → number_of a ≡ 0 → same from to ≡ false
      → Brought first earlier (from ++ rest) v → Brought first (done (acts (move from to) work) a ∷ earlier) (to ++ rest) v

-- the table after a history
unfoldable pub table_by : List Done → List Row → List Row
table_by [] first = first
table_by (done c a ∷ earlier) first = table_at (number_of a) c (table_by earlier first)

table-append : (later earlier : List Done) (first : List Row) → table_by (later ++ earlier) first ≡ table_by later (table_by earlier first)
unfolding table_by
table-append [] earlier first = refl
table-append (done c a ∷ later) earlier first = ap (table_at (number_of a) c) (table-append later earlier first)

pub run-table : {s s' : List ℕ} {cs : List Call} {given : List Answer} → Run s cs given s' → table_of s' ≡ table_by (history cs given) (table_of s)
unfolding history table_by
run-table stop = refl
run-table {s} (call {c = c} {a = a} {cs = cs} {later = given} m r) =
    run-table r
    ∙ ap (table_by (history cs given)) (m.table ∙ rw (← number_is m) refl)
    ∙ sym (table-append (history cs given) (done c a ∷ []) (table_of s))

-- An accepted get of p answered len and the buffer out: a value that was brought to p, in front of the rest of the buffer.
pub record Got (first : List Row) (h : List Done) (p buffer : List ℕ) (len : ℕ) (out : List ℕ) : Type 0 where
  pub value : List ℕ
  pub brought : Brought first h p value
  pub len_is : len ≡ length value
  pub out_is : out ≡ value ++ drop (length value) buffer

-- An accepted next, below p and after q, answered len and the buffer out, and left the store s: a path, in front of the rest of the buffer,
-- to which a value was brought; and a get of that path, with room for a value, then reads this value.
pub record Listed (first : List Row) (h : List Done) (p q buffer : List ℕ) (len : ℕ) (out s : List ℕ) : Type 0 where
  pub path : List ℕ
  pub value : List ℕ
  pub brought : Brought first h path value
  pub under : below path p ≡ true
  pub greater : before q path ≡ true
  pub len_is : len ≡ length path
  pub out_is : out ≡ path ++ drop (length path) buffer
  pub reads : {s' w' room : List ℕ} {a : Answer} → Meets s (asks (get path) room) a s' w' → value_limit ≤ length room
      → a ≡ filled 0 (length value) (value ++ drop (length value) room)

-- what next finds is there, below p and after q
pub least_fits : (p q k : List ℕ) (t : List Row) → rising t ≡ true → least_after p q t ≡ some k → Fits p q t k
unfolding rising
least_fits p q k [] up e = absurd (Option·none-ne-some k (sym (nil-none p q) ∙ e))
least_fits p q k (r ∷ t) up e =
    by_row (begins p r.key) refl (before q r.key) refl
    (λ f. later-fits p q r t k up (least_fits p q k t (and_right (leads r.key t) _ up) f))
  where
    by_row : (x : Bool) → begins p r.key ≡ x → (y : Bool) → before q r.key ≡ y → (least_after p q t ≡ some k → Fits p q (r ∷ t) k)
        → Fits p q (r ∷ t) k
    by_row true a true b later =
        let z : r.key ≡ k = Option·some-injective r.key k (sym (least-yes p q r t a b) ∙ e) in
        rw (← z) (record { present = first-present r t; under = a; after = b })
    by_row true a false b later = later (sym (least-early p q r t b) ∙ e)
    by_row false a y b later = later (sym (least-far p q r t a) ∙ e)

pub has_value : (o : Option (List ℕ)) → is_some o ≡ true → (v : List ℕ) × (o ≡ some v)
unfolding is_some
has_value none e = absurd (false≢true e)
has_value (some v) e = (v, refl)
