-- Each call keeps what holds of a table of waits.
use Rattle.std.proofs.Common.{◌≡◌, ◌⊎◌, ⊎_elim, ℕ, ◌+◌, ◌<◌, ◌≤◌, Bool, true, false, List, [], ◌∷◌, ◌++◌, length, refl, sym, ap, ◌∙◌, subst, arith}
use Rattle.std.proofs.lemmas.Bool.{and_parts}
use Rattle.std.proofs.lemmas.List.{length_push}
use Rattle.lock_table.specs.Grants.{Has}
use Rattle.lock_table.proofs.Kept.{has_left, has_parts}
use Rattle.wait_die.specs.declared.want.Want.{Want}
use Rattle.wait_die.specs.declared.grant.Grant.{Grant}
use Rattle.wait_die.specs.declared.grant.Waiting.{Waiting}
use Rattle.wait_die.specs.declared.waits.Turn.{Turn}
use Rattle.wait_die.specs.declared.waits.Turn.TheVariants.{Wait}
use Rattle.wait_die.specs.Conflict.{conflict}
use Rattle.wait_die.specs.Waiting.{WaitTable, is_open, is_older, is_other, is_of_other, is_apart, added, started, ended}
use Rattle.wait_die.specs.Turns.{turn_of, wait}
use Rattle.wait_die.specs.Kept.{IsWait, IsKept, HasRoom}
use Rattle.wait_die.specs.Laws.{NoneIsAhead, IsHolder, Says}
use Rattle.wait_die.proofs.Lists.{has_filtered, filtered_has, among_has, among_none, is_other_not, differ_pushed, differ_filtered, at_most}
use Rattle.wait_die.proofs.Ages.{older_has, other_older, older_more, older_left}
use Rattle.wait_die.proofs.Losing.{turn_law, conflicts_has}
use Rattle.wait_die.proofs.Adding.{added_old, added_only}

-- there is room for one session more
pub room_admitting : (t : WaitTable) (s room more : ℕ) → HasRoom t room → length t.admitted + 1 ≤ more → HasRoom (record t { admitted = t.admitted ++ s ∷ [] }) more
room_admitting t s room more h l = record {
  kept = record {
    once = h.kept.once;
    admitted = λ x i. has_left t.admitted (s ∷ []) x (h.kept.admitted x i);
    granted = h.kept.granted;
    waits = λ x i. let w = h.kept.waits x i in record { waiter = w.waiter; on = w.on; older = w.older; held = w.held };
  };
  enough = let long = length_push t.admitted s in omega (arith, long, l);
}

pub kept_started : (t : WaitTable) (s : ℕ) → IsKept t → Has t.admitted s → is_open t s ≡ false → IsKept (started t s)
kept_started t s k a n = record {
  once = differ_pushed t.begun s k.once (among_none s t.begun n);
  admitted = λ x h. ⊎_elim
      (λ (i : Has t.begun x). k.admitted x i)
      (λ (i : Has (s ∷ []) x). ⊎_elim (λ (e : s ≡ x). subst (λ (y : ℕ). Has t.admitted y) e a) (λ (e : ⊥). absurd e) i)
      (has_parts t.begun (s ∷ []) x h);
  granted = λ g h. has_left t.begun (s ∷ []) g.session (k.granted g h);
  waits = λ x h. let w = k.waits x h in record {
    waiter = has_left t.begun (s ∷ []) x.waiter w.waiter;
    on = has_left t.begun (s ∷ []) x.on w.on;
    older = older_more t.begun (s ∷ []) x.waiter x.on w.older;
    held = w.held;
  };
}

-- there is room for one transaction more
pub room_left : (t : WaitTable) (s room : ℕ) → HasRoom t room → Has t.admitted s → is_open t s ≡ false → length t.begun < room
room_left t s room h a n =
    let k = h.kept in
    let r = h.enough in
    let most = at_most (s ∷ t.begun) t.admitted (among_none s t.begun n, k.once) (λ z i. ⊎_elim (λ (e : s ≡ z). subst (λ (y : ℕ). Has t.admitted y) e a) (λ (j : Has t.begun z). k.admitted z j) i) in
    omega (arith, most, r)

pub kept_ended : (t : WaitTable) (s : ℕ) → IsKept t → IsKept (ended t s)
kept_ended t s k = record {
  once = differ_filtered (is_other s) t.begun k.once;
  admitted = λ x h. k.admitted x (has_filtered (is_other s) t.begun x h).0;
  granted = λ g h. let two = has_filtered (is_of_other s) t.grants g h in filtered_has (is_other s) t.begun g.session (k.granted g two.0) two.1;
  waits = λ x h.
      let two = has_filtered (is_apart s) t.waits x h in
      let w = k.waits x two.0 in
      let apart = and_parts (is_other s x.waiter) (is_other s x.on) two.1 in
      record {
        waiter = filtered_has (is_other s) t.begun x.waiter w.waiter apart.0;
        on = filtered_has (is_other s) t.begun x.on w.on apart.1;
        older = older_left s t.begun x.waiter x.on (is_other_not s x.waiter apart.0) (is_other_not s x.on apart.1) w.older;
        held = (w.held.0, filtered_has (is_of_other s) t.grants w.held.0 w.held.1 (ap (is_other s) w.held.2 ∙ apart.1), w.held.2, w.held.3);
      };
}

pub kept_granted : (t : WaitTable) (s : ℕ) (ws : List Want) → IsKept t → is_open t s ≡ true → IsKept (record t { grants = added s ws t.grants })
kept_granted t s ws k o = record {
  once = k.once;
  admitted = k.admitted;
  granted = λ g h. ⊎_elim
      (λ (i : Has t.grants g). k.granted g i)
      (λ (i : (g.session ≡ s) × Has ws g.want). subst (λ (y : ℕ). Has t.begun y) (sym i.0) (among_has s t.begun o))
      (added_only s ws t.grants g h);
  waits = λ x h. let w = k.waits x h in record {
    waiter = w.waiter;
    on = w.on;
    older = w.older;
    held = (w.held.0, added_old s ws t.grants w.held.0 w.held.1, w.held.2, w.held.3);
  };
}

-- the holder is a younger transaction, and has a conflicting want
younger : (t : WaitTable) (s : ℕ) (ws : List Want) (on : ℕ) → IsKept t → NoneIsAhead t.begun s ws t.grants → IsHolder s ws t.grants on → IsWait t (wait s ws on)
younger t s ws on k none h =
    let g = h.found.0 in
    let a = h.found.1 in
    let is = h.found.2 in
    let one = conflicts_has ws g.want a.conflicting in
    let there : Has t.begun g.session = k.granted g a.granted in
    let before : is_older t.begun g.session s ≡ false = at g one.0 one.1 a.granted one.2 (is_older t.begun g.session s) refl in
    let older : is_older t.begun s g.session ≡ true = other_older t.begun s g.session (λ e. a.other (sym e)) there before in
    record {
      waiter = older_has t.begun s g.session older;
      on = subst (λ (y : ℕ). Has t.begun y) is there;
      older = subst (λ (y : ℕ). is_older t.begun s y ≡ true) is older;
      held = (g, a.granted, is, a.conflicting);
    }
  where
    at : (g : Grant) (w : Want) → Has ws w → Has t.grants g → conflict w g.want ≡ true → (b : Bool) → is_older t.begun g.session s ≡ b → is_older t.begun g.session s ≡ false
    at g w h i c true e = absurd (none w g (record { wanted = h; granted = i; conflicting = c; older = e }))
    at g w h i c false e = e

-- a wait on a session that is told to be waited on
is_wait : (t : WaitTable) (s : ℕ) (ws : List Want) (on : ℕ) → IsKept t → turn_of t s ws ≡ Wait on → IsWait t (wait s ws on)
is_wait t s ws on k e = let says = subst (λ (u : Turn). Says t s ws u) e (turn_law t s ws) in younger t s ws on k says.0 says.1

pub kept_waited : (t : WaitTable) (s : ℕ) (ws : List Want) (on : ℕ) → IsKept t → turn_of t s ws ≡ Wait on → IsKept (record t { waits = t.waits ++ wait s ws on ∷ [] })
kept_waited t s ws on k e = record {
  once = k.once;
  admitted = k.admitted;
  granted = k.granted;
  waits = λ x h. ⊎_elim
      (λ (i : Has t.waits x). here x (k.waits x i))
      (λ (i : Has (wait s ws on ∷ []) x). ⊎_elim (λ (a : wait s ws on ≡ x). subst (λ (y : Waiting). IsWait (record t { waits = t.waits ++ wait s ws on ∷ [] }) y) a (here (wait s ws on) (is_wait t s ws on k e))) (λ (a : ⊥). absurd a) i)
      (has_parts t.waits (wait s ws on ∷ []) x h);
}
  where
    here : (x : Waiting) → IsWait t x → IsWait (record t { waits = t.waits ++ wait s ws on ∷ [] }) x
    here x w = record { waiter = w.waiter; on = w.on; older = w.older; held = w.held }

pub room_started : (t : WaitTable) (s room : ℕ) → HasRoom t room → Has t.admitted s → is_open t s ≡ false → HasRoom (started t s) room
room_started t s room h a n = record { kept = kept_started t s h.kept a n; enough = h.enough }

pub room_ended : (t : WaitTable) (s room : ℕ) → HasRoom t room → HasRoom (ended t s) room
room_ended t s room h = record { kept = kept_ended t s h.kept; enough = h.enough }

pub room_granted : (t : WaitTable) (s room : ℕ) (ws : List Want) → HasRoom t room → is_open t s ≡ true → HasRoom (record t { grants = added s ws t.grants }) room
room_granted t s room ws h o = record { kept = kept_granted t s ws h.kept o; enough = h.enough }

pub room_waited : (t : WaitTable) (s room : ℕ) (ws : List Want) (on : ℕ) → HasRoom t room → turn_of t s ws ≡ Wait on → HasRoom (record t { waits = t.waits ++ wait s ws on ∷ [] }) room
room_waited t s room ws on h e = record { kept = kept_waited t s ws on h.kept e; enough = h.enough }
