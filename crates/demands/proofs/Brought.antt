-- Demand 2, nothing else can be read, and nothing is lost: after any list of calls on a sound image a path has just the value that the
-- history brought to it. The first image had it, a put gave it or a move brought it, and no call touched it since. So get and next.
-- Relies on the contracts of the calls (image), on Touches and, that lookup finds what the table has, on laws. The laws of specs/Brought that rest on a definition which a must-fail edit changes.
use Rattle.std.specs.Prelude.{ℕ, ◌≡◌, refl, List, [], ◌∷◌, ◌++◌, Bool, true, false, ◌||◌, not, length, drop, eqb}
use Rattle.image.specs.Prelude.{sym, ap, subst, ◌∙◌, false≢true, some, Option·some-injective, Option·none-ne-some, eqb-true}
use Rattle.image.specs.Bytes.{same, begins}
use Rattle.image.specs.Path.{below}
use Rattle.image.specs.Table.{Row, find, moved}
use Rattle.image.specs.Sound.{sound, table_of, value_in}
use Rattle.image.specs.Calls.{Call, acts, keeps, asks, Act, put, drops, clear, move, settle, tidy, get, next, Answer, filled, number_of, found_by, act_table, table_after, table_at}
use Rattle.image.specs.Contract.{first_no_on, Besides, Meets, Run}
use Rattle.octets.specs.Order.{and_left, and_right, not-true, same-eq, begins-split}
use Rattle.laws.specs.Tables.{find-with, find-without, find-cleared}
use Rattle.laws.specs.LookupTable.{means-table}
use Rattle.laws.specs.Next.{Fits}
use Rattle.laws.specs.Follow.{table-rises}
use Rattle.laws.specs.Formed.{found-formed}
use Rattle.demands.specs.Consequences.{all_yes, was-whole, was_sound, run_sound, Answered, query-answered, get-reads}
use Rattle.demands.specs.FindMoved.{find-moved-to, find-moved-from}
use Rattle.demands.specs.Touches.{act_touches, call_touches, touches}
use Rattle.demands.proofs.Touches.{call-spares}
use Rattle.demands.specs.Brought.{Brought, Done, Got, Listed, done, has_value, held, history, least_fits, run-table, stays, table_by, was_moved, was_put}

-- what was brought is in the table
table-has : {first : List Row} {h : List Done} {p v : List ℕ} → Brought first h p v → find p (table_by h first) ≡ some v
unfolding table_by touches table_at table_after act_table
table-has (held e) = e
table-has {first} {p = p} (stays {earlier} {c} {a} b e) = call-spares (number_of a) c p (table_by earlier first) e ∙ table-has b
table-has {first} {p = p} {v = v} (was_put {earlier} e) = rw e (find-with p v (table_by earlier first))
table-has {first} (was_moved {earlier} {from = from} {to = to} rest e d b) = rw e (find-moved-to from to rest (table_by earlier first) ∙ table-has b)

-- What is in the table after the last call was brought, where all that is in the table t before it was: by that call where it touches the
-- path, else by the calls before it.
module _ (first : List Row) (earlier : List Done) (t : List Row) (was-brought : (p v : List ℕ) → find p t ≡ some v → Brought first earlier p v) where
  move-brought : (from to work p v : List ℕ) (a : Answer) → number_of a ≡ 0 → same from to ≡ false → begins from p || begins to p ≡ true
      → find p (moved from to t) ≡ some v → Brought first (done (acts (move from to) work) a ∷ earlier) p v
  move-brought from to work p v a e d b h = by_place (begins to p) refl
    where
      rest : List ℕ
      rest = drop (length to) p

      left_over : (x y : Bool) → x || y ≡ true → y ≡ false → x ≡ true
      left_over true y o n = refl
      left_over false y o n = sym n ∙ o

      by_place : (x : Bool) → begins to p ≡ x → Brought first (done (acts (move from to) work) a ∷ earlier) p v
      by_place true c =
          let split : to ++ rest ≡ p = begins-split to p c in
          let there : find (from ++ rest) t ≡ some v = sym (find-moved-to from to rest t) ∙ ap (λ q. find q (moved from to t)) split ∙ h in
          subst (λ q. Brought first (done (acts (move from to) work) a ∷ earlier) q v) split (was_moved rest e d (was-brought (from ++ rest) v there))
      by_place false c = absurd (Option·none-ne-some v (sym (find-moved-from from to p t c (left_over (begins from p) (begins to p) b c)) ∙ h))

  act-brought : (x : Act) (work p v : List ℕ) (a : Answer) → number_of a ≡ 0 → act_touches x p ≡ true → find p (act_table x t) ≡ some v
      → Brought first (done (acts x work) a ∷ earlier) p v
  unfolding act_touches act_table below
  act-brought (put q u) work p v a e b h =
      let same-path : p ≡ q = same-eq p q b in
      let same-value : u ≡ v = Option·some-injective u v (sym (find-with q u t) ∙ rw same-path at h) in
      rw (same-path, ← same-value) (was_put e)
  act-brought (drops q) work p v a e b h = absurd (Option·none-ne-some v (sym (find-without q t) ∙ rw (same-eq p q b) at h))
  act-brought (clear q) work p v a e b h = absurd (Option·none-ne-some v (sym (find-cleared p q t b) ∙ h))
  act-brought (move from to) work p v a e b h =
      move-brought from to work p v a e (not-true (same from to) (and_left _ _ b)) (and_right (not (same from to)) _ b) h
  act-brought settle work p v a e b h = absurd (false≢true b)
  act-brought tidy work p v a e b h = absurd (false≢true b)

  accepted-brought : (c : Call) (p v : List ℕ) (a : Answer) → number_of a ≡ 0 → call_touches c p ≡ true → find p (table_after c t) ≡ some v
      → Brought first (done c a ∷ earlier) p v
  unfolding call_touches table_after
  accepted-brought (acts x work) p v a e b h = act-brought x work p v a e b h
  accepted-brought (keeps u i work) p v a e b h = absurd (false≢true b)
  accepted-brought (asks q buffer) p v a e b h = absurd (false≢true b)

  call-brought : (c : Call) (a : Answer) (p v : List ℕ) (x : Bool) → touches c a p ≡ x → find p (table_at (number_of a) c t) ≡ some v
      → Brought first (done c a ∷ earlier) p v
  unfolding touches table_at
  call-brought c a p v false b h = stays (was-brought p v (sym (call-spares (number_of a) c p t b) ∙ h)) b
  call-brought c a p v true b h =
      let e : number_of a ≡ 0 = eqb-true (number_of a) 0 (and_left _ _ b) in
      accepted-brought c p v a e (and_right (eqb (number_of a) 0) _ b) (rw e at h)

table-brought : (first : List Row) (h : List Done) (p v : List ℕ) → find p (table_by h first) ≡ some v → Brought first h p v
unfolding table_by
table-brought first [] p v e = held e
table-brought first (done c a ∷ earlier) p v e =
    call-brought first earlier (table_by earlier first) (table-brought first earlier) c a p v (touches c a p) refl e

-- Whatever value a path has after a list of calls was brought to it by that history.
pub read-was-brought : {s s' p v : List ℕ} {cs : List Call} {given : List Answer} → sound s ≡ true → Run s cs given s'
    → value_in s' p ≡ some v → Brought (table_of s) (history cs given) p v
read-was-brought {s} {s'} {p} {v} {cs} {given} is_sound r e =
    table-brought (table_of s) (history cs given) p v (ap (find p) (sym (run-table r)) ∙ sym (means-table s' (run_sound r is_sound) p) ∙ e)

-- And what was brought to it is there: nothing is lost, and no two values are brought to one path.
pub brought-is-read : {s s' p v : List ℕ} {cs : List Call} {given : List Answer} → sound s ≡ true → Run s cs given s'
    → Brought (table_of s) (history cs given) p v → value_in s' p ≡ some v
brought-is-read {s' = s'} {p = p} is_sound r b = means-table s' (run_sound r is_sound) p ∙ ap (find p) (run-table r) ∙ table-has b

-- (That the get is accepted says that its store is sound; nothing is asked of the first bytes.)
pub get-was-brought : {s s' s'' w p buffer out : List ℕ} {cs : List Call} {given : List Answer} {len : ℕ} → Run s cs given s'
    → Meets s' (asks (get p) buffer) (filled 0 len out) s'' w → Got (table_of s) (history cs given) p buffer len out
unfolding found_by
get-was-brought {s} {p = p} {cs = cs} {given = given} r m =
    let f : Answered _ (get p) _ _ _ = query-answered m in
    record {
      value = f.bytes;
      brought = table-brought (table_of s) (history cs given) p f.bytes (ap (find p) (sym (run-table r)) ∙ f.found);
      len_is = f.len_is;
      out_is = f.out_is;
    }

pub next-was-brought : {s s' s'' w p q buffer out : List ℕ} {cs : List Call} {given : List Answer} {len : ℕ} → Run s cs given s'
    → Meets s' (asks (next p q) buffer) (filled 0 len out) s'' w → Listed (table_of s) (history cs given) p q buffer len out s''
unfolding found_by number_of Besides below
next-was-brought {s} {s'} {s''} {p = p} {q = q} {buffer = buffer} {cs = cs} {given = given} r m =
    let f : Answered s' (next p q) buffer _ _ = query-answered m in
    let e : first_no_on s' (asks (next p q) buffer) ≡ 0 = all_yes m refl in
    let kept : s'' ≡ s' = m.also e in
    let is_sound : sound s' ≡ true = was_sound s' (asks (next p q) buffer) e in
    let fits : Fits p q (table_of s') f.bytes = least_fits p q f.bytes (table_of s') (table-rises s' is_sound) f.found in
    let there : (v : List ℕ) × (find f.bytes (table_of s') ≡ some v) = has_value (find f.bytes (table_of s')) fits.present in
    record {
      path = f.bytes;
      value = there.0;
      brought = table-brought (table_of s) (history cs given) f.bytes there.0 (ap (find f.bytes) (sym (run-table r)) ∙ there.1);
      under = fits.under;
      greater = fits.after;
      len_is = f.len_is;
      out_is = f.out_is;
      reads =
          λ g room.
          get-reads there.0 g (rw kept (was-whole s' (asks (next p q) buffer) e)) (rw kept is_sound)
          (found-formed s' is_sound f.bytes there.0 there.1) room (ap (λ x. find f.bytes (table_of x)) kept ∙ there.1);
    }
