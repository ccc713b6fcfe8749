-- Two ends of one run are one, and what the slow evaluator computes is an end.
use Rattle.std.proofs.Common.{◌≡◌, ℕ, zero, suc, List, Option, Some, None, refl, sym, subst, ap}
use Rattle.grain_value.specs.declared.scopes.Entry.{Entry}
use Rattle.grain_value.specs.declared.stores.Cell.{Cell}
use Rattle.grain_fault.specs.declared.traces.Fault.{Fault}
use Rattle.grain_program.specs.View.{View}
use Rattle.grain_host.specs.Law.{Law}
use Rattle.grain_global.specs.declared.engines.Engine.{Engine}
use Rattle.grain_global.specs.declared.states.GlobalRuntimeState.{GlobalRuntimeState}
use Rattle.grain_means.specs.Worlds.{Act, Go, End, Then, Answer, World, Setup, Todo}
use Rattle.grain_means.specs.Rules.{next}
use Rattle.grain_means.specs.Ends.{Ends, ended, went, joined}
use Rattle.grain_means.specs.Means.{Begin, Finish, Means, Over, and_then, slowly}

at_end : {S : Type 0} {m : Setup S} {a b : Answer} {w v : World S} → Ends m (End a w) b v →
    (a ≡ b) × (w ≡ v)
at_end ended = (refl, refl)

past_go : {S : Type 0} {m : Setup S} {t : Todo} {a : Answer} {w v : World S} → Ends m (Go t w) a v →
    Ends m (next m t w) a v
past_go (went run) = run

past_then : {S : Type 0} {m : Setup S} {first : Act S} {rest : Answer → World S → Act S}
    {a : Answer} {v : World S} → Ends m (Then first rest) a v → (b : Answer) × (w : World S) ×
    Ends m first b w × Ends m (rest b w) a v
past_then (joined {b} {w} one two) = (b, w, one, two)

pub one_end : {S : Type 0} {m : Setup S} {act : Act S} {a b : Answer} {w v : World S} →
    Ends m act a w → Ends m act b v → (a ≡ b) × (w ≡ v)
one_end ended other = at_end other
one_end (went run) other = one_end run (past_go other)
one_end {S} {m} {a} {b} {w} {v} (joined {rest = rest} {b = c} one two) other =
    let parts = past_then other in
    let both = one_end one parts.2 in
    let moved = subst (λ (q : Answer). Ends m (rest q parts.1) b v) (sym both.0) parts.3 in
    one_end two (subst (λ (u : World S). Ends m (rest c u) b v) (sym both.1) moved)

no-some : {A S : Type 0} {e : Over S} → None ≡ Some e → A
no-some e = cc

same-some : {S : Type 0} {e f : Over S} → Some e ≡ Some f → e ≡ f
same-some e = cc

module _ {S : Type 0} (m : Setup S) where
  after_first : (n : ℕ) →
      ((act : Act S) (e : Over S) → slowly m n act ≡ Some e → Ends m act e.answer e.world) →
      (first : Act S) (rest : Answer → World S → Act S) (r : Option (Over S)) → slowly m n first ≡
      r → (e : Over S) →
      and_then r (λ a w. slowly m n (rest a w)) ≡ Some e → Ends m (Then first rest) e.answer e.world
  after_first n so_far first rest None h e k = no-some k
  after_first n so_far first rest (Some f) h e k =
      joined (so_far first f h) (so_far (rest f.answer f.world) e k)

  pub slowly_ends : (n : ℕ) (act : Act S) (e : Over S) → slowly m n act ≡ Some e →
      Ends m act e.answer e.world
  slowly_ends zero act e h = no-some h
  slowly_ends (suc n) (End a w) e h =
      subst (λ (q : Over S). Ends m (End a w) q.answer q.world) (same-some h) ended
  slowly_ends (suc n) (Go t w) e h = went (slowly_ends n (next m t w) e h)
  slowly_ends (suc n) (Then first rest) e h =
      after_first n (slowly_ends n) first rest (slowly m n first) refl e h

same-finish : {S : Type 0} (a b : Answer) (t u : List Fault) (s r : List Entry) (c d : List Cell)
    (h k : S) (g i : GlobalRuntimeState) → a ≡ b → t ≡ u → s ≡ r → c ≡ d → h ≡ k →
    g ≡ i →
    ◌≡◌ {A = Finish S}
    (record { answer = a; trace = t; scope = s; cells = c; host = h; global = g })
    (record { answer = b; trace = u; scope = r; cells = d; host = k; global = i })
same-finish a b t u s r c d h k g i e1 e2 e3 e4 e5 e6 = rw (e1, e2, e3, e4, e5, e6) refl

same-global : (n m l k : ℕ) → n ≡ m → l ≡ k →
    ◌≡◌ {A = GlobalRuntimeState} (record { num_operations = n; level = l })
    (record { num_operations = m; level = k })
same-global n m l k e d = rw (e, d) refl

-- a program means one end
pub one_meaning : {S : Type 0} (law : Law S) (program : View) (engine : Engine) (b : Begin S)
    (e f : Finish S) (n k : ℕ) → Means law program engine b e n → Means law program engine b f k →
    (e ≡ f) × (n ≡ k)
one_meaning {S} law program engine b e f n k one two =
    let both = one_end one.1.0 two.1.0 in
    let world = both.1 in
    let global : e.global ≡ f.global = same-global e.global.num_operations f.global.num_operations
    e.global.level f.global.level (ap (λ (w : World S). w.count) world)
    (ap (λ (w : World S). w.level) world) in (
      same-finish e.answer f.answer e.trace f.trace e.scope f.scope e.cells f.cells e.host f.host
          e.global f.global both.0
          (ap (λ (w : World S). w.trace) world) (ap (λ (w : World S). w.scope) world)
          (ap (λ (w : World S). w.cells) world) (ap (λ (w : World S). w.host) world) global,
      ap (λ (w : World S). w.ran) world,
    )
