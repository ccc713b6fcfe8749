-- How stretches of a walk by itself are put together.
use Rattle.std.proofs.Common.{◌≡◌, ◌≤◌, ◌+◌, ℕ, List, Option, Bool, true, false, refl, sym, ap, ◌∙◌, subst, arith}
use Rattle.std.specs.Prelude.{if◌then◌else◌}
use Rattle.grain_value.specs.declared.values.Held.{Held}
use Rattle.grain_value.specs.declared.stores.Cell.{Cell}
use Rattle.grain_fault.specs.Problems.{NoMemory}
use Rattle.grain_means.specs.Tasks.{Task, Own, WalkFailed, play}
use Rattle.grain_means.specs.Worlds.{is_stop}
use Rattle.grain_means.specs.Simulation.{NoStopWithin, StopsHere, StopPersists}
use Rattle.grain_means.specs.Walks.{Rest, at_mark}
use Rattle.grain_chain.specs.OwnWalks.{WalksOn, own}

clear_first : (stop : Option ℕ) (a b c : ℕ) → b ≤ c → NoStopWithin stop a c → NoStopWithin stop a b
clear_first stop a b c h clear = λ k l m. clear k l (omega (arith, h, m))

clear_last : (stop : Option ℕ) (a b c : ℕ) → a ≤ b → NoStopWithin stop a c → NoStopWithin stop b c
clear_last stop a b c h clear = λ k l m. clear k (omega (arith, h, l)) m

halts_first : (one two : Bool) (stop : Option ℕ) (b c : ℕ) → StopPersists one b two c →
    StopsHere two stop c → StopsHere one stop b
halts_first false two stop b c p h = tt
halts_first true two stop b c p h =
    ap (is_stop stop) (sym p.1)
    ∙ subst (λ (o : Bool). StopsHere o stop c) p.0 h

module _ {cells : List Cell} where
  pub go_on : {a b c : Own} {t u v : Task} {one two : Bool} → WalksOn cells a t one b u →
      WalksOn cells b u two c v → StopPersists one b.passed two c.passed → WalksOn cells a t two c v
  go_on {a} {b} {c} {one = one} {two = two} h k carry = record {
    order = omega (arith, h.order, k.order);
    equal = λ stop clear halts.
        h.equal stop (clear_first stop a.passed b.passed c.passed k.order clear)
        (halts_first one two stop b.passed c.passed carry halts)
        ∙ k.equal stop (clear_last stop a.passed b.passed c.passed h.order clear) halts;
  }

  pub by_play : {a b : Own} {t u : Task} →
      ((stop : Option ℕ) → play stop cells t a ≡ play stop cells u b) → b.passed ≡ a.passed →
      WalksOn cells a t false b u
  by_play f e = record { order = omega (arith, e); equal = λ stop clear halts. f stop }

  pub as_is : {a : Own} {t u : Task} → t ≡ u → WalksOn cells a t false a u
  as_is {a} e = by_play (λ stop. ap (λ (q : Task). play stop cells q a) e) refl

  pub any : {a b : Own} {t u : Task} (out : Bool) → WalksOn cells a t false b u →
      WalksOn cells a t out b u
  any out h = record { order = h.order; equal = λ stop clear halts. h.equal stop clear tt }

  pub passed_by : (n : ℕ) (rs : List Held) (k k2 : ℕ) (done : Rest) (go : Task) → k2 ≡ k + 1 →
      WalksOn cells (own rs k) (at_mark n done go) false (own rs k2) go
  passed_by n rs k k2 done go e = record {
    order = omega (arith, e);
    equal = λ stop clear halts.
        ap (λ (b : Bool). if b then play stop cells (done (WalkFailed n NoMemory)) (own rs k)
        else play stop cells go (own rs (k + 1))) (clear k (omega arith) (omega (arith, e)))
        ∙ ap (λ (j : ℕ). play stop cells go (own rs j)) (sym e);
  }

  pub halted : (n : ℕ) (rs : List Held) (k : ℕ) (done : Rest) (go : Task) →
      WalksOn cells (own rs k) (at_mark n done go) true (own rs k) (done (WalkFailed n NoMemory))
  halted n rs k done go = record {
    order = omega arith;
    equal = λ stop clear halts.
        ap (λ (b : Bool). if b then play stop cells (done (WalkFailed n NoMemory)) (own rs k)
        else play stop cells go (own rs (k + 1))) halts;
  }
