-- What a session is told that asks for its wants, and what that leaves.
use Rattle.std.specs.Prelude.{ℕ, nat_lt, cond, ◌&&◌, ◌||◌, Bool, List, [], ◌∷◌, ◌++◌, Option, Some, None}
use Rattle.wait_die.specs.declared.want.WaitLock.{WaitLock}
use Rattle.wait_die.specs.declared.want.Want.{Want}
use Rattle.wait_die.specs.declared.grant.Grant.{Grant}
use Rattle.wait_die.specs.declared.grant.Waiting.{Waiting}
use Rattle.wait_die.specs.declared.loss.Loss.{Loss}
use Rattle.wait_die.specs.declared.waits.Turn.{Turn}
use Rattle.wait_die.specs.declared.waits.Turn.TheVariants.{Granted, Wait, Lost}
use Rattle.wait_die.specs.Conflict.{same_lock, conflict, conflicts, is_below}
use Rattle.wait_die.specs.Waiting.{WaitTable, is_open, is_older, is_of_other, added}

-- the lesser session
abbrev pub lesser : ℕ → Option ℕ → ℕ
lesser s None = s
lesser s (Some t) = cond (nat_lt s t) s t

-- the least session that has a grant which meets the test
abbrev pub least_session : (Grant → Bool) → List Grant → Option ℕ
least_session test [] = None
least_session test (g ∷ gs) = cond (test g) (Some (lesser g.session (least_session test gs))) (least_session test gs)

-- the grant is an older session's, and conflicts with the want
abbrev pub is_ahead : List ℕ → ℕ → Want → Grant → Bool
is_ahead begun session w g = conflict w g.want && is_older begun g.session session

-- the grant is another session's, and conflicts with one of the wants
abbrev pub is_against : ℕ → List Want → Grant → Bool
is_against session ws g = is_of_other session g && conflicts ws g.want

-- the loss on the lower lock, or on one lock that by the lower session
abbrev pub lesser_loss : Loss → Option Loss → Loss
lesser_loss p None = p
lesser_loss p (Some q) = cond (is_below p.lock q.lock || (same_lock p.lock q.lock && nat_lt p.by q.by)) p q

-- a loss on this lock by a session, if there is one, beside other losses
abbrev pub with_loss : WaitLock → Option ℕ → Option Loss → Option Loss
with_loss lock None others = others
with_loss lock (Some by) others = Some (lesser_loss (record { lock = lock; by = by }) others)

-- the least lock of the wants on which an older session has a conflicting want, and the least such session
abbrev pub loss_of : List ℕ → ℕ → List Want → List Grant → Option Loss
loss_of begun session [] gs = None
loss_of begun session (w ∷ ws) gs = with_loss w.lock (least_session (is_ahead begun session w) gs) (loss_of begun session ws gs)

-- the least other session that has a want which conflicts with one of these
abbrev pub holder_of : ℕ → List Want → List Grant → Option ℕ
holder_of session ws gs = least_session (is_against session ws) gs

-- lost to an older session, or else a wait on a younger one, or else granted
abbrev pub turn_by : Option Loss → Option ℕ → Turn
turn_by (Some loss) holder = Lost loss.lock loss.by
turn_by None (Some on) = Wait on
turn_by None None = Granted

-- what a session is told
abbrev pub turn_of : WaitTable → ℕ → List Want → Turn
turn_of t session ws = turn_by (loss_of t.begun session ws t.grants) (holder_of session ws t.grants)

-- a wait of a session on another one
abbrev pub wait : ℕ → List Want → ℕ → Waiting
wait session ws on = record { waiter = session; wants = ws; on = on }

-- what an answer leaves: a loss changes nothing, a wait joins the others, and an open transaction gets the wants that it is granted
abbrev pub after_turn : WaitTable → ℕ → List Want → Turn → WaitTable
after_turn t session ws (Lost lock by) = t
after_turn t session ws (Wait on) = record t { waits = t.waits ++ wait session ws on ∷ [] }
after_turn t session ws Granted = cond (is_open t session) (record t { grants = added session ws t.grants }) t
