-- Trails: where they end, and how they go on when a fork is added.
use Rattle.std.proofs.Common.{◌≡◌, ℕ, zero, suc, ◌+◌, ◌<◌, ◌≤◌, ◌/◌, Bool, true, false, refl, sym, ap, ◌∙◌, subst, arith}
use Rattle.key_index.specs.declared.fork.End.{End}
use Rattle.key_index.specs.declared.fork.End.TheVariants.{At, Past, Lost}
use Rattle.key_index.specs.Forks.{step, way_of, walk}

abbrev is_there : End → ℕ
is_there (At i) = suc i
is_there (Past j way) = 0
is_there Lost = 0

abbrev past_of : End → ℕ
past_of (At i) = 0
past_of (Past j way) = suc j
past_of Lost = 0

abbrev place_past : ℕ → End → ℕ
place_past d (At i) = d
place_past d (Past j way) = j
place_past d Lost = d

abbrev side_past : ℕ → End → ℕ
side_past d (At i) = d
side_past d (Past j way) = way
side_past d Lost = d

pub same_place : (i j : ℕ) → At i ≡ At j → i ≡ j
same_place i j e = let h : suc i ≡ suc j = ap is_there e in omega (arith, h)

pub at_past : (i j : ℕ) (way : ℕ) → At i ≡ Past j way → ⊥
at_past i j way e = let h : suc i ≡ 0 = ap is_there e in omega (arith, h)

pub at_lost : (i : ℕ) → At i ≡ Lost → ⊥
at_lost i e = let h : suc i ≡ 0 = ap is_there e in omega (arith, h)

pub past_lost : (j : ℕ) (way : ℕ) → Past j way ≡ Lost → ⊥
past_lost j way e = let h : suc j ≡ 0 = ap past_of e in omega (arith, h)

module _ (here : ℕ → Bool) (link : ℕ → ℕ → ℕ) (n : ℕ) (within : (at : ℕ) (way : ℕ) → 0 < link at way → link at way < n) where
  next_in : (at : ℕ) (way : ℕ) (to : ℕ) → link at way ≡ suc to → link at way < n
  next_in at way to e = within at way (omega (arith, e))

  stands_case : (at i : ℕ) (way : ℕ) (more : End) (b : Bool) (to : ℕ) → here at ≡ b → link at way ≡ to → at < n
      → (link at way < n → more ≡ At i → (here i ≡ true) × (i < n))
      → step b to at way more ≡ At i → (here i ≡ true) × (i < n)
  stands_case at i way more true to b t l next h = subst (λ (k : ℕ). (here k ≡ true) × (k < n)) (same_place at i h) (b, l)
  stands_case at i way more false zero b t l next h = absurd (at_past i at way (sym h))
  stands_case at i way more false (suc to) b t l next h = next (next_in at way to t) h

  -- a trail that ends at a fork ends where the key stands
  pub stands : (fuel at rest i : ℕ) → at < n → walk here link fuel at rest ≡ At i → (here i ≡ true) × (i < n)
  stands zero at rest i l e = absurd (at_lost i (sym e))
  stands (suc fuel) at rest i l e =
      stands_case at i (way_of rest) _ (here at) (link at (way_of rest)) refl refl l (λ k h. stands fuel (link at (way_of rest)) (rest / 4) i k h) e

  free_case : (at j : ℕ) (way side : ℕ) (more : End) (b : Bool) (to : ℕ) → here at ≡ b → link at way ≡ to → at < n
      → (link at way < n → more ≡ Past j side → (link j side ≡ 0) × (j < n))
      → step b to at way more ≡ Past j side → (link j side ≡ 0) × (j < n)
  free_case at j way side more true to b t l next h = absurd (at_past at j side h)
  free_case at j way side more false zero b t l next h =
      let place : at ≡ j = ap (place_past at) h in
      let turn : way ≡ side = ap (side_past way) h in
      subst (λ (s : ℕ). (link j s ≡ 0) × (j < n)) turn (subst (λ (k : ℕ). (link k way ≡ 0) × (k < n)) place (t, l))
  free_case at j way side more false (suc to) b t l next h = next (next_in at way to t) h

  -- a trail that ends past a fork ends where that leads nowhere
  pub is_free : (fuel at rest j : ℕ) (side : ℕ) → at < n → walk here link fuel at rest ≡ Past j side → (link j side ≡ 0) × (j < n)
  is_free zero at rest j side l e = absurd (past_lost j side (sym e))
  is_free (suc fuel) at rest j side l e =
      free_case at j (way_of rest) side _ (here at) (link at (way_of rest)) refl refl l (λ k h. is_free fuel (link at (way_of rest)) (rest / 4) j side k h) e

  module _ (later : (at : ℕ) (way : ℕ) → 0 < link at way → at < link at way) where
    lost_case : (at : ℕ) (way : ℕ) (more : End) (b : Bool) (to : ℕ) → link at way ≡ to
        → (at < link at way → link at way < n → more ≡ Lost → ⊥) → step b to at way more ≡ Lost → ⊥
    lost_case at way more true to t next h = at_lost at h
    lost_case at way more false zero t next h = past_lost at way h
    lost_case at way more false (suc to) t next h = next (later at way (omega (arith, t))) (next_in at way to t) h

    -- a trail is never lost, since it goes on to later forks only
    pub not_lost : (fuel at rest : ℕ) → n ≤ at + fuel → at < n → walk here link fuel at rest ≡ Lost → ⊥
    not_lost zero at rest f l e = absurd (omega (arith, f, l))
    not_lost (suc fuel) at rest f l e =
        lost_case at (way_of rest) _ (here at) (link at (way_of rest)) refl (λ a k h. not_lost fuel (link at (way_of rest)) (rest / 4) (omega (arith, a, f)) k h) e

  module _ (here2 : ℕ → Bool) (link2 : ℕ → ℕ → ℕ) (same : (at : ℕ) → at < n → here2 at ≡ here at) (kept : (at : ℕ) (way : ℕ) → 0 < link at way → link2 at way ≡ link at way) where
    stays_case : (at i : ℕ) (way : ℕ) (more : End) (more2 : ℕ → End) (b : Bool) (to : ℕ) → here at ≡ b → link at way ≡ to → at < n
        → (link at way < n → more ≡ At i → more2 (link at way) ≡ At i)
        → step b to at way more ≡ At i → step (here2 at) (link2 at way) at way (more2 (link2 at way)) ≡ At i
    stays_case at i way more more2 true to b t l next h = ap (λ (x : Bool). step x (link2 at way) at way (more2 (link2 at way))) (same at l ∙ b) ∙ h
    stays_case at i way more more2 false zero b t l next h = absurd (at_past i at way (sym h))
    stays_case at i way more more2 false (suc to) b t l next h =
        ap (λ (x : Bool). step x (link2 at way) at way (more2 (link2 at way))) (same at l ∙ b)
        ∙ ap (λ (x : ℕ). step false x at way (more2 x)) (kept at way (omega (arith, t)) ∙ t)
        ∙ ap more2 (sym t) ∙ next (next_in at way to t) h

    -- a trail that ends at a fork stays when links are added
    pub stays : (fuel at rest i : ℕ) → at < n → walk here link fuel at rest ≡ At i → walk here2 link2 (suc fuel) at rest ≡ At i
    stays zero at rest i l e = absurd (at_lost i (sym e))
    stays (suc fuel) at rest i l e =
        stays_case at i (way_of rest) _ (λ x. walk here2 link2 (suc fuel) x (rest / 4)) (here at) (link at (way_of rest)) refl refl l
        (λ k h. stays fuel (link at (way_of rest)) (rest / 4) i k h) e

    ends_case : (at j to2 : ℕ) (way side : ℕ) (more : End) (more2 : ℕ → End) (b : Bool) (to : ℕ) → here at ≡ b → link at way ≡ to → at < n
        → link2 j side ≡ suc to2 → more2 (suc to2) ≡ At (suc to2)
        → (link at way < n → more ≡ Past j side → more2 (link at way) ≡ At (suc to2))
        → step b to at way more ≡ Past j side → step (here2 at) (link2 at way) at way (more2 (link2 at way)) ≡ At (suc to2)
    ends_case at j to2 way side more more2 true to b t l new last next h = absurd (at_past at j side h)
    ends_case at j to2 way side more more2 false zero b t l new last next h =
        let place : at ≡ j = ap (place_past at) h in
        let turn : way ≡ side = ap (side_past way) h in
        let leads : link2 at way ≡ suc to2 = ap (λ (k : ℕ). link2 k way) place ∙ ap (link2 j) turn ∙ new in
        ap (λ (x : Bool). step x (link2 at way) at way (more2 (link2 at way))) (same at l ∙ b)
        ∙ ap (λ (x : ℕ). step false x at way (more2 x)) leads ∙ last
    ends_case at j to2 way side more more2 false (suc to) b t l new last next h =
        ap (λ (x : Bool). step x (link2 at way) at way (more2 (link2 at way))) (same at l ∙ b)
        ∙ ap (λ (x : ℕ). step false x at way (more2 x)) (kept at way (omega (arith, t)) ∙ t)
        ∙ ap more2 (sym t) ∙ next (next_in at way to t) h

    arrives : (fuel to2 rest : ℕ) → here2 (suc to2) ≡ true → walk here2 link2 (suc fuel) (suc to2) rest ≡ At (suc to2)
    arrives fuel to2 rest e = ap (λ (x : Bool). step x (link2 (suc to2) (way_of rest)) (suc to2) (way_of rest) (walk here2 link2 fuel (link2 (suc to2) (way_of rest)) (rest / 4))) e

    -- a trail that ended past a fork ends at the new fork that this leads to now
    pub ends : (fuel at rest j to2 : ℕ) (side : ℕ) → at < n → link2 j side ≡ suc to2 → here2 (suc to2) ≡ true → walk here link fuel at rest ≡ Past j side → walk here2 link2 (suc fuel) at rest ≡ At (suc to2)
    ends zero at rest j to2 side l new there e = absurd (past_lost j side (sym e))
    ends (suc fuel) at rest j to2 side l new there e =
        ends_case at j to2 (way_of rest) side _ (λ x. walk here2 link2 (suc fuel) x (rest / 4)) (here at) (link at (way_of rest)) refl refl l new (arrives fuel to2 (rest / 4) there)
        (λ k h. ends fuel (link at (way_of rest)) (rest / 4) j to2 side k new there h) e

small_case : (at j way rest : ℕ) (more : End) (b : Bool) (to : ℕ) → (more ≡ Past j way → way < 4) → step b to at (way_of rest) more ≡ Past j way → way < 4
small_case at j way rest more true to next h = absurd (at_past at j way h)
small_case at j way rest more false zero next h = let turn : way_of rest ≡ way = ap (side_past way) h in omega (arith, turn)
small_case at j way rest more false (suc to) next h = next h

-- a way is one of four
pub way_small : (here : ℕ → Bool) (link : ℕ → ℕ → ℕ) (fuel at rest j way : ℕ) → walk here link fuel at rest ≡ Past j way → way < 4
way_small here link zero at rest j way e = absurd (past_lost j way (sym e))
way_small here link (suc fuel) at rest j way e = small_case at j way rest _ (here at) (link at (way_of rest)) (λ h. way_small here link fuel (link at (way_of rest)) (rest / 4) j way h) e
