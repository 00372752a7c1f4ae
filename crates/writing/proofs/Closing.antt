-- Entries get their brackets: the two ways of `closed`, where nothing was written and where something was. Either is one step after another, so that
-- what it leaves is known exactly; what it means for the entries is `close_empty` and `close_entries`. Assumes nothing.
use mathlib.Core.Path.{◌≡◌, ◌∙◌}
use mathlib.Core.List.{List, [], ◌∷◌}
use Prim.Native.Nat.{ℕ}
use borrow.Author.Tests.{eq-eqb, ne_eqb}
use lib.ListN.{set, length-set}
use Rattle.writing.specs.Wrote.{Writes, Closes, closed, closed_end}
use Rattle.writing.proofs.WroteLaws.{close_empty, close_entries}
use Rattle.writing.proofs.WritesLaws.{cons, written_one, saturated_long}

-- both brackets are put, one after the other
pub closes_none : {t t1 t2 : List ℕ} {s a a1 a2 l r : ℕ} → a ≡ s → Writes t t1 a a1 (l ∷ []) → Writes t1 t2 a1 a2 (r ∷ []) → Closes l r t s a t2 a2
unfolding closed closed_end
closes_none {s = s} {a = a} h p q =
    let e = eq-eqb a s h in
    record { exact = rw e (cons p q).exact; moved = rw e (cons p q).moved; closes = λ b es w. close_empty es h w p.wrote q.wrote }

-- the left bracket is set where the entries begin, and then the right one is put
pub closes_some : (t : List ℕ) {t2 : List ℕ} {s a a2 r : ℕ} (l : ℕ) → (a ≡ s → ⊥) → Writes (set t s l) t2 a a2 (r ∷ []) → Closes l r t s a t2 a2
unfolding closed closed_end
closes_some t {s = s} {a = a} {r = r} l h p =
    let e = ne_eqb a s h in
    record {
      exact = rw (e, ← (written_one t s l)) p.exact;
      moved = rw e (p.moved ∙ saturated_long t (set t s l) a (r ∷ []) (length-set t s l));
      closes = λ b es w. close_entries l es h w p.wrote;
    }
