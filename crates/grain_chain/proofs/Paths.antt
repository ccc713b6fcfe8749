-- Values at the end of a path that leads somewhere, and the roots of a trail.
use Rattle.std.proofs.Common.{◌≡◌, List, [], ◌∷◌, ◌++◌, Bool, Option, Some, None, Result, Ok, Err, is_ok, is_some, IfOk, IfErr, sym, ap, ◌∙◌}
use Rattle.grain_value.specs.Tree.{Tree}
use Rattle.grain_value.specs.View.{tree, value_of}
use Rattle.grain_value.specs.Paths.{at, put, put_value, Leads}
use Rattle.grain_value.specs.Parts.{or_unchanged}
use Rattle.grain_value.specs.laws.Same.{tree-value_of, value_of-tree}
use Rattle.grain_value.specs.laws.PathLaws.{at-put, put-put, put-at}
use Rattle.grain_value.specs.declared.memory.OutOfMemory.{OutOfMemory}
use Rattle.grain_value.specs.declared.values.Dynamic.{Dynamic}
use Rattle.grain_value.specs.declared.values.Held.{Held}
use Rattle.grain_value.specs.declared.values.paths.PathStep.{PathStep}
use Rattle.grain_value.specs.declared.values.value_faults.ValueFault.{ValueFault}
use Rattle.grain_ops.specs.Outcomes.{Outcome}
use Rattle.grain_ops.specs.Answers.{Assigns}
use Rattle.grain_ops.specs.declared.answers.AssignAnswer.{AssignAnswer}
use Rattle.grain_ops.specs.declared.answers.AssignAnswer.TheVariants as assigned
use Rattle.grain_chain.specs.Standings.{Standing, AllLead, Leading, Stands, PartPut, AssignedThere, put_there}
use Rattle.grain_chain.specs.declared.origins.OuterRoot.{OuterRoot}

pub leads_put : (path : List PathStep) (d v e : Dynamic) → e ≡ put_value path v d →
    Leads path (tree d) → Leads path (tree e)
leads_put path d v e is l =
    ap (λ (a : Dynamic). is_ok (at path (tree a))) is
    ∙ ap (λ (t : Tree). is_ok (at path t)) (tree-value_of (put path (tree v) (tree d)))
    ∙ ap is_ok (at-put path (tree d) (tree v) l)

-- the second of two writes counts
pub twice : (path : List PathStep) (d a v e f : Dynamic) → Leads path (tree d) →
    e ≡ put_value path a d → f ≡ put_value path v e → f ≡ put_value path v d
twice path d a v e f l one two =
    two ∙ ap (λ (x : Dynamic). put_value path v x) one
    ∙ ap (λ (t : Tree). value_of (put path (tree v) t)) (tree-value_of (put path (tree a) (tree d)))
    ∙ ap value_of (put-put path (tree d) (tree a) (tree v) l)

pub put_same : (path : List PathStep) (d v : Dynamic) → at path (tree d) ≡ Ok (tree v) →
    put_value path v d ≡ d
put_same path d v h = ap value_of (put-at path (tree d) (tree v) h) ∙ value_of-tree d

ok-inj : (s t : Tree) → ◌≡◌ {A = Result Tree ValueFault} (Ok s) (Ok t) → s ≡ t
ok-inj s t e = cc

-- one value stands at a place
pub one_value : (r : Result Tree ValueFault) (a v : Dynamic) → r ≡ Ok (tree a) → r ≡ Ok (tree v) → a ≡ v
one_value r a v h i = sym (value_of-tree a) ∙ ap value_of (ok-inj (tree a) (tree v) (sym h ∙ i))
    ∙ value_of-tree v

pub leading_put : (os : List OuterRoot) (h : Held) (path : List PathStep) (v e : Dynamic) →
    e ≡ put_value path v h.value →
    Leading (record { outer = os; here = h; path = path }) →
    Leading (record { outer = os; here = record h { value = e }; path = path })
leading_put os h path v e is l =
    record { leads = leads_put path h.value v e is l.leads; outer = l.outer }

pub leading_twice : (os : List OuterRoot) (h : Held) (path : List PathStep) (a v e f : Dynamic) →
    e ≡ put_value path a h.value → f ≡ put_value path v e →
    Leading (record { outer = os; here = h; path = path }) →
    Leading (record { outer = os; here = record h { value = f }; path = path })
leading_twice os h path a v e f one two l =
    record {
      leads = leads_put path e v f two (leads_put path h.value a e one l.leads);
      outer = l.outer;
    }

pub lead_fewer : (os : List OuterRoot) (o : OuterRoot) → AllLead (os ++ o ∷ []) →
    AllLead os × Leads o.path (tree o.root.value)
lead_fewer [] o h = (tt, h.0)
lead_fewer (p ∷ os) o h = let below = lead_fewer os o h.1 in ((h.0, below.0), below.1)

pub lead_more : (os : List OuterRoot) (o : OuterRoot) → AllLead os → Leads o.path (tree o.root.value) →
    AllLead (os ++ o ∷ [])
lead_more [] o h l = (l, tt)
lead_more (p ∷ os) o h l = (h.0, lead_more os o h.1 l)

-- what was taken, changed and put back
pub put_back : (s : Standing) (a v e f : Dynamic) → Leading s → e ≡ put_value s.path a s.here.value →
    f ≡ put_value s.path v e →
    record s { here = record s.here { value = f } } ≡ put_there s v
put_back s a v e f l one two =
    ap (λ (d : Dynamic). let t : Standing = record s { here = record s.here { value = d } } in t)
    (twice s.path s.here.value a v e f l.leads one two)

pub unchanged : (s : Standing) (v : Dynamic) → Stands s v → put_there s v ≡ s
unchanged s v h =
    ap (λ (d : Dynamic). let t : Standing = record s { here = record s.here { value = d } } in t)
    (put_same s.path s.here.value v h)

pub part_put : (s t : Standing) (v w : Dynamic) (o : Option Dynamic) (r : Result Bool OutOfMemory) →
    Stands s v → t ≡ put_there s w → IfOk r (λ b. b ≡ is_some o) →
    IfOk r (λ b. w ≡ or_unchanged v o) → IfErr r (λ e. w ≡ v) → PartPut s o r t
part_put s t v w (Some d) (Ok b) h is done left same = (done, is ∙ ap (put_there s) left)
part_put s t v w None (Ok b) h is done left same =
    (done, is ∙ ap (put_there s) left ∙ unchanged s v h)
part_put s t v w (Some d) (Err e) h is done left same = is ∙ ap (put_there s) same ∙ unchanged s v h
part_put s t v w None (Err e) h is done left same = is ∙ ap (put_there s) same ∙ unchanged s v h

pub assigned_there : (s t : Standing) (v w : Dynamic) (a : AssignAnswer) (o : Outcome) → Stands s v →
    t ≡ put_there s w → Assigns a o v w → AssignedThere s a o t
assigned_there s t v w assigned.NotBuiltIn o h is did =
    (did.0, is ∙ ap (put_there s) did.1 ∙ unchanged s v h)
assigned_there s t v w assigned.Done o h is did = (w, did, is)
assigned_there s t v w (assigned.Failed x) o h is did =
    (did.0, is ∙ ap (put_there s) did.1 ∙ unchanged s v h)
