-- The requests of a batch: their calls and answers one after another, and a run of calls with one more at its end.
-- Relies on the definitions of image's Batch and Contract, and on demands' BatchOutcome for the room behind an answer.
use Rattle.std.specs.Prelude.{ℕ, ◌-◌, ◌≤◌, ◌≡◌, refl, List, [], ◌∷◌, ◌++◌, length}
use Rattle.image.specs.Prelude.{sym, ap, subst, ◌∙◌, append_assoc, arith}
use Rattle.image.specs.Calls.{Call, Answer}
use Rattle.image.specs.Contract.{Meets, Run, stop, call}
use Rattle.image.specs.Batch.{Request, call_of, calls_of, answer_bytes, answers_bytes, most_bytes, HadRoom}
use Rattle.demands.specs.BatchOutcome.{room-behind}

-- one more at the end
pub calls-more : (work : List ℕ) (rs : List Request) (r : Request) → calls_of work (rs ++ (r ∷ [])) ≡ calls_of work rs ++ (call_of work r ∷ [])
unfolding calls_of
calls-more work [] r = refl
calls-more work (q ∷ rs) r = ap (λ l. call_of work q ∷ l) (calls-more work rs r)

pub bytes-more : (given : List Answer) (a : Answer) → answers_bytes (given ++ (a ∷ [])) ≡ answers_bytes given ++ answer_bytes a
unfolding answers_bytes
bytes-more [] a = append-nil (answer_bytes a)
  where
    append-nil : (l : List ℕ) → l ++ [] ≡ l
    append-nil [] = refl
    append-nil (x ∷ l) = ap (λ t. x ∷ t) (append-nil l)
bytes-more (b ∷ given) a = ap (λ l. answer_bytes b ++ l) (bytes-more given a) ∙ sym (append_assoc (answer_bytes b) (answers_bytes given) (answer_bytes a))

pub run_more : {s s' s'' w' : List ℕ} {cs : List Call} {given : List Answer} {c : Call} {a : Answer} → Run s cs given s' → Meets s' c a s'' w'
    → Run s (cs ++ (c ∷ [])) (given ++ (a ∷ [])) s''
run_more stop m = call m stop
run_more (call k r) m = call k (run_more r m)

pub room-more : (work : List ℕ) (rs : List Request) {s s' : List ℕ} {given : List Answer} (room : ℕ) (r : Request) (a : Answer) → Run s (calls_of work rs) given s' → HadRoom rs given room
    → most_bytes r ≤ room - length (answers_bytes given) → HadRoom (rs ++ (r ∷ [])) (given ++ (a ∷ [])) room
unfolding calls_of answers_bytes HadRoom
room-more work [] room r a stop h k = (omega arith, tt)
room-more work (q ∷ rs) room r a (call {a = b} {later = later} m run) h k =
    (h.0, room-more work rs (room - length (answer_bytes b)) r a run h.1 (subst (λ n. most_bytes r ≤ n) (room-behind room b later) k))
