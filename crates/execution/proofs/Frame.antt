-- What a call leaves behind: the plans that stood stand, the spans of the sets around are as before, and so the next call may be made. Assumes nothing.
use mathlib.Core.Path.{◌≡◌, refl, ◌∙◌}
use mathlib.Core.List.{List}
use Prim.Native.Nat.{ℕ, ◌+◌, ◌*◌, ◌≤◌, ◌<◌}
use native.Mathlib.Omega.{arith}
use Rattle.codes.specs.Outcome.{most_segments}
use Rattle.graphql.specs.Request.{Request}
use Rattle.planning.specs.Plans.{group_count, members_of, group_at, Kept, PlanOf, Standing}
use Rattle.planning.proofs.Standing.{word_on, groups_on, members_on, plan_on}
use Rattle.walking.specs.declared.path.Path.{Path}
use Rattle.walking.specs.declared.state.State.{State}
use Rattle.execution.specs.Walk.{Ready, PlannedFor, Grouped, Left}

-- ---- Words that are as before

pub kept_all : (l : List ℕ) (n : ℕ) → Kept l n l
kept_all l n = record { sized = refl; same = λ i h. refl }

pub kept_then : {l m r : List ℕ} (a b : ℕ) → a ≤ b → Kept l a m → Kept m b r → Kept l a r
kept_then a b h p q = record { sized = q.sized ∙ p.sized; same = λ i g. q.same i (omega arith) ∙ p.same i g }

pub kept_less : {l m : List ℕ} (a b : ℕ) → a ≤ b → Kept l b m → Kept l a m
kept_less a b h p = record { sized = p.sized; same = λ i g. p.same i (omega arith) }

-- ---- What is left behind

module _ {Q : Request} where
  -- nothing was done
  pub left_same : {plans spans hints : List ℕ} {top : ℕ} (depth : ℕ) → Standing Q plans top → Left Q depth plans spans hints top plans spans hints top
  left_same {plans} {spans} {top = top} depth h = record {
    further = omega arith;
    kept = kept_all plans (8 * top);
    standing = h;
    unspanned = kept_all spans (128 * depth);
    hinted = refl;
  }

  -- of fewer sets around
  pub left_less : {depth' : ℕ} {plans spans hints plans' spans' hints' : List ℕ} {top top' : ℕ} (depth : ℕ) → depth ≤ depth'
      → Left Q depth' plans spans hints top plans' spans' hints' top' → Left Q depth plans spans hints top plans' spans' hints' top'
  left_less {depth'} depth h l = record {
    further = l.further;
    kept = l.kept;
    standing = l.standing;
    unspanned = kept_less (128 * depth) (128 * depth') (omega arith) l.unspanned;
    hinted = l.hinted;
  }

  -- one after the other
  pub left_then : {depth depth' : ℕ} {plans spans hints plans1 spans1 hints1 plans2 spans2 hints2 : List ℕ} {top top1 top2 : ℕ}
      → depth ≤ depth' → Left Q depth plans spans hints top plans1 spans1 hints1 top1 → Left Q depth' plans1 spans1 hints1 top1 plans2 spans2 hints2 top2
      → Left Q depth plans spans hints top plans2 spans2 hints2 top2
  left_then {depth} {depth'} {top = top} {top1} h p q = record {
    further = omega (arith, p.further, q.further);
    kept = kept_then (8 * top) (8 * top1) (omega (arith, p.further)) p.kept q.kept;
    standing = q.standing;
    unspanned = kept_then (128 * depth) (128 * depth') (omega arith) p.unspanned q.unspanned;
    hinted = q.hinted ∙ p.hinted;
  }

  module _ {depth : ℕ} {plans spans hints plans' spans' hints' : List ℕ} {top top' : ℕ} (l : Left Q depth plans spans hints top plans' spans' hints' top')
    where
      -- the next call may be made
      pub left_ready : {path : Path} {s : State} (path' : Path) (s' : State) → s'.top ≡ top' → path'.count ≤ most_segments
          → Ready Q plans spans hints path s → Ready Q plans' spans' hints' path' s'
      left_ready path' s' e k h = record {
        sound = h.sound;
        standing = rw e l.standing;
        small = rw l.kept.sized h.small;
        spaced = l.unspanned.sized ∙ h.spaced;
        hinted = l.hinted ∙ h.hinted;
        short = k;
      }

      pub left_plan : {plan object : ℕ} {set : List ℕ} → PlanOf Q plans top plan object set → PlanOf Q plans' top' plan object set
      left_plan a = plan_on l.kept Q top' l.further l.standing.there a

      pub left_planned : {plan object : ℕ} → PlannedFor Q plans top plan object → PlannedFor Q plans' top' plan object
      left_planned a = record { set = a.set; right = left_plan a.right }

      pub left_count : {plan object : ℕ} → PlannedFor Q plans top plan object → group_count plans' plan ≡ group_count plans plan
      left_count {plan} a = groups_on l.kept plan a.right.ends

      pub left_members : {plan object group : ℕ} → PlannedFor Q plans top plan object → group < group_count plans plan
          → members_of plans' plan group ≡ members_of plans plan group
      left_members {plan} {group = group} a h = members_on l.kept plan a.right.ends group h

      -- a group is as before
      pub left_group : {plan object group : ℕ} → PlannedFor Q plans top plan object → group < group_count plans plan
          → group_at Q.tables.selections plans' plan group ≡ group_at Q.tables.selections plans plan group
      left_group {plan} {group = group} a h =
          rw (word_on l.kept (plan + 1 + group) 0 (omega (arith, a.right.ends)) (omega arith), left_members a h)

      pub left_grouped : {plan group : ℕ} → Grouped Q plans top plan group → Grouped Q plans' top' plan group
      left_grouped a = record { object = a.object; planned = left_planned a.planned; has = rw (left_count a.planned) a.has }
