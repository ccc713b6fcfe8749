-- A native that is asked for keeps to the store.
use Rattle.std.proofs.Common.{◌≡◌, ◌≤◌, ◌+◌, ℕ, List, Option, Some, None, Bool, true, false, if◌then◌else◌, ◌&&◌, refl, arith}
use Rattle.std.proofs.Math.Nat.{max-le}
use Rattle.std.specs.List.{list_all}
use Rattle.std.specs.Prelude.{max}
use Rattle.grain_value.specs.Cells.{cell_bound}
use Rattle.grain_value.specs.Operands.{values_in}
use Rattle.grain_value.specs.Tree.{Tree, array, pack}
use Rattle.grain_value.specs.declared.natives.Native.{Native}
use Rattle.grain_value.specs.declared.scopes.Entry.{Entry}
use Rattle.grain_value.specs.declared.stores.Cell.{Cell}
use Rattle.grain_value.specs.declared.values.Dynamic.{Dynamic}
use Rattle.grain_value.specs.declared.values.Held.{Held}
use Rattle.grain_fault.specs.Positions.{at_position_if_none}
use Rattle.grain_fault.specs.Problems.{Problem, Plain, NonPureCall}
use Rattle.grain_host.specs.Clean.{both_true}
use Rattle.grain_host.specs.Law.{Reply, call_bound, call_is_clean, is_plain, native_of, receiver_bound, receiver_is_plain, written}
use Rattle.grain_host.specs.Law as reply
use Rattle.grain_means.specs.Contained.{AnswerNames, Names, ProblemNames}
use Rattle.grain_means.specs.Rules as rules
use Rattle.grain_means.specs.Rules.{Home, InScope, InCell, AtPlace, Receiver, back_in_scope, back_in_cells, back_in_roots, cells_given_back, roots_given_back, bound, first_is_read_only, given, given_back, lent_held, native_over, no_memory, receiver_left, trees_in, unheard}
use Rattle.grain_host.specs.Signatures.{not_found}
use Rattle.grain_means.specs.Worlds.{Act, Answer, Came, Failed, Frame, Setup, World}
use Rattle.grain_means.proofs.Caught.{filled_names}
use Rattle.grain_means.proofs.Footing.{by_test}
use Rattle.grain_means.proofs.Naming.{plain_operands, plain_tree, plain_trees, trees_name}
use Rattle.grain_means.proofs.Containing.Parts.{Arguments, none_missing, ReplyNames, HomeNames, home_names, home_clear, home_written, ReceiverNames, HoldsPlain, LendsPlain, set_plain}
use Rattle.grain_means.proofs.Containing.Leaving.{Bases, At, Leaves, cell_set, entry_kept, lowers, marks_or, root_put}
use Rattle.grain_means.proofs.Containing.Lending.{asked_pointer, asked_values, entry_too, receiver_heard, receiver_lent}
use Rattle.grain_means.proofs.Containing.Roots.{put_firm}
use Rattle.grain_means.proofs.Containing.Keeping.{Kept, Since}

module _ {S : Type 0} {m : Setup S} (on : Bases m) where
  open on use {lawful, clean, least, since}

  module _ (n : ℕ) (low : least ≤ n) where
    -- what the host may hand over
    pub call_names : (r : Option Receiver) (args : List Held) (w : World S) → At on n w →
        ReceiverNames clean n r → Arguments clean n args →
        call_bound m.law w.host (lent_held r) (trees_in args) ≤ n
    call_names r args w at receiver given =
        max-le {a = m.law.reach w.host}
        {b = max (receiver_bound (lent_held r)) (cell_bound (array (pack (trees_in args))))}
        at.reaches (max-le {a = receiver_bound (lent_held r)}
        {b = cell_bound (array (pack (trees_in args)))} (own r receiver)
        (trees_name clean n args (plain_operands clean n args given)).0) where
          own : (r : Option Receiver) → ReceiverNames clean n r → receiver_bound (lent_held r) ≤ n
          own None h = omega arith
          own (Some q) h = (home_names clean n q.home q.held h).0

    pub call_clean : (r : Option Receiver) (args : List Held) (w : World S) → At on n w →
        ReceiverNames clean n r → Arguments clean n args → clean ≡ true →
        call_is_clean m.law w.host (lent_held r) (trees_in args) ≡ true
    call_clean r args w at receiver given s =
        both_true (m.law.holds_clean w.host)
        (receiver_is_plain (lent_held r) && list_all is_plain (trees_in args)) (at.hands s)
        (both_true (receiver_is_plain (lent_held r)) (list_all is_plain (trees_in args))
        (own r receiver) (plain_trees clean n args given s)) where
          own : (r : Option Receiver) → ReceiverNames clean n r →
              receiver_is_plain (lent_held r) ≡ true
          own None h = refl
          own (Some q) h =
              plain_tree clean n q.held
              (home_names clean n q.home q.held h, home_clear clean n q.home q.held h) s

    -- what is back of a receiver
    back_names : (key : ℕ) (q : Receiver) (args : List Held) (w : World S) → At on n w →
        HomeNames clean n q.home q.held → Arguments clean n args →
        HomeNames clean n q.home (written m.law w.host key (trees_in args) q.held)
    back_names key q args w at receiver given = by_flag (m.law.writes w.host key) where
      values : List Tree
      values = trees_in args

      by_flag : (b : Bool) →
          HomeNames clean n q.home (if b then record q.held {
            value = m.law.call_written w.host key q.held values;
          } else q.held)
      by_flag true =
          home_written clean n q.home q.held (m.law.call_written w.host key q.held values) receiver (
            omega (
              arith,
              lawful.writes_within w.host key q.held values,
              call_names (Some q) args w at receiver given,
            ),
            λ s. lawful.writes_clean w.host key q.held values
                (call_clean (Some q) args w at receiver given s),
          )
          (lawful.writes_content w.host key q.held values)
      by_flag false = receiver

    -- the world once the host has answered
    abbrev after : ℕ → Option Receiver → List Held → World S → World S
    after key r args w = record w {
      host = m.law.call_after w.host key (lent_held r) (trees_in args);
      scope = given_back m.law w.host key (trees_in args) r w.scope;
      cells = cells_given_back m.law w.host key (trees_in args) r w.cells;
      roots = roots_given_back m.law w.host key (trees_in args) r w.roots;
    }

    -- what was lent is back
    home_back : (a : Home) (h : Held) (w : World S) → HomeNames clean n a h → At on n w →
        Kept m.law clean n since (back_in_scope a h w.scope) (back_in_cells a h w.cells) w.host
        (back_in_roots a h w.roots)
    home_back (InScope i) h w held at = entry_kept on n low w i h at held.0 held.1
    home_back (InCell i) h w held at = cell_set on n low w i h at held.0 held.1
    home_back (AtPlace p) h w held at = root_put on n low w p h.value at held.0 held.1

    home_holds : (a : Home) (h : Held) (w : World S) → HomeNames clean n a h →
        HoldsPlain a (back_in_scope a h w.scope) (back_in_roots a h w.roots)
    home_holds (InScope i) h w held = λ g is. set_plain w.scope i h g held.1 is
    home_holds (InCell i) h w held = tt
    home_holds (AtPlace p) h w held = put_firm clean n w.roots p h.value held.1

    module _ (key : ℕ) (args : List Held) (w : World S) (at : At on n w)
        (given : Arguments clean n args) where
      -- the host that answered holds what it may
      host_after : (r : Option Receiver) → ReceiverNames clean n r → (scope : List Entry)
          (cells : List Cell) (roots : List Held) →
          Kept m.law clean n since scope cells w.host roots →
          Kept m.law clean n since scope cells
          (m.law.call_after w.host key (lent_held r) (trees_in args)) roots
      host_after r receiver scope cells roots there = record {
        size = there.size;
        entries = there.entries;
        contents = there.contents;
        reaches = omega (
          arith,
          lawful.stays_within w.host key (lent_held r) (trees_in args),
          call_names r args w at receiver given,
        );
        hands = λ s. lawful.stays_clean w.host key (lent_held r) (trees_in args)
            (call_clean r args w at receiver given s);
        waits = λ s. lawful.waits_after_call w.host key (lent_held r) (trees_in args)
            (call_clean r args w at receiver given s) (at.waits s);
        lends = there.lends;
        stand = there.stand;
        plain = there.plain;
      }

      answers_at : (r : Option Receiver) → ReceiverNames clean n r → At on n (after key r args w)
      answers_at None receiver = host_after None receiver w.scope w.cells w.roots at
      answers_at (Some q) receiver =
          let back = written m.law w.host key (trees_in args) q.held in
          host_after (Some q) receiver (back_in_scope q.home back w.scope)
          (back_in_cells q.home back w.cells) (back_in_roots q.home back w.roots)
          (home_back q.home back w (back_names key q args w at receiver given) at)

      left_names : (r : Option Receiver) → ReceiverNames clean n r →
          ReceiverNames clean n (receiver_left m.law w.host key (trees_in args) r)
      left_names None receiver = tt
      left_names (Some q) receiver = back_names key q args w at receiver given

      -- the entry that was lent is no cell afterwards
      lends_plain : (r : Option Receiver) → ReceiverNames clean n r →
          LendsPlain (receiver_left m.law w.host key (trees_in args) r)
          (given_back m.law w.host key (trees_in args) r w.scope)
          (roots_given_back m.law w.host key (trees_in args) r w.roots)
      lends_plain None receiver = tt
      lends_plain (Some q) receiver =
          home_holds q.home (written m.law w.host key (trees_in args) q.held) w
          (back_names key q args w at receiver given)

  -- what a native left stands where its receiver stood
  left_plain : (key : ℕ) (values : List Tree) (s : S) (r : Option Receiver) (scope : List Entry)
      (roots : List Held) → LendsPlain (receiver_left m.law s key values r) scope roots →
      LendsPlain r scope roots
  left_plain key values s None scope roots h = h
  left_plain key values s (Some q) scope roots h = h

  -- the host forgets what it asked for
  pub forgets : (n : ℕ) (token : ℕ) (w : World S) → At on n w →
      At on n (record w { host = m.law.forget_after w.host token })
  forgets n token w at = record {
    size = at.size;
    entries = at.entries;
    contents = at.contents;
    reaches = omega (arith, lawful.forgets_within w.host token, at.reaches);
    hands = λ s. lawful.forgets_clean w.host token (at.hands s);
    waits = λ s. lawful.waits_after_forget w.host token (at.waits s);
    lends = at.lends;
    stand = at.stand;
    plain = at.plain;
  }

  pub not_heard : (n : ℕ) (a : Reply) (w : World S) → At on n w → At on n (unheard m.law a w)
  not_heard n (reply.Done v) w at = at
  not_heard n (reply.Failed x) w at = at
  not_heard n (reply.Ask token p values) w at = forgets n token w at

  -- what follows is said of each larger store, since a call that the native asks for may add cells
  module _ (to : Since) (n : ℕ) (low : least ≤ n) (out : World S → Act S)
      (outs : (k : ℕ) → n ≤ k → (w : World S) → At on k w → Leaves m clean to k (out w)) (f : Frame)
      (r : Option Receiver) (go : Dynamic → World S → Act S) (fails : Problem → World S → Act S)
      (going : (k : ℕ) → n ≤ k → (v : Dynamic) (w : World S) → At on k w → Names clean k v →
      Leaves m clean to k (go v w)) (failing : (k : ℕ) → n ≤ k → (x : Problem) (w : World S) →
      At on k w → LendsPlain r w.scope w.roots → ProblemNames clean k x →
      Leaves m clean to k (fails x w)) where
    outs_now : (w : World S) → At on n w → Leaves m clean to n (out w)
    outs_now w at = outs n (omega arith) w at

    over : (a : Answer) (k : ℕ) → n ≤ k → (w : World S) → At on k w → LendsPlain r w.scope w.roots →
        AnswerNames clean k a → Leaves m clean to k (native_over out go fails a w)
    over (Came v) k le w at plain named = going k le v w at named
    over (Failed x) k le w at plain bound =
        by_test (Leaves m clean to k) (no_memory x) (out w) (fails x w)
        (λ stop. outs k le w at) (λ other. failing k le x w at plain bound)

    -- the receiver is as the native left it
    answered : (l : Option Receiver) → ReceiverNames clean n l →
        ((scope : List Entry) (roots : List Held) → LendsPlain l scope roots →
        LendsPlain r scope roots) → (a : Reply) (w : World S) → At on n w →
        LendsPlain l w.scope w.roots → ReplyNames clean n a →
        Leaves m clean to n (rules.answered m out l a f w go fails)
    answered l left same (reply.Done v) w at plain bound = going n (omega arith) v w at bound
    answered l left same (reply.Failed x) w at plain bound =
        failing n (omega arith) (at_position_if_none (rules.position m f) x) w at
        (same w.scope w.roots plain) (filled_names clean n (rules.position m f) x bound)
    answered l left same (reply.Ask token p values) w at plain bound = (
      n,
      omega arith,
      record { cells = w.cells; roots = w.roots; plain = entry_too l since.plain },
      (
        n,
        omega arith,
        receiver_lent at l plain,
        (left, asked_pointer clean n token p values bound, asked_values clean n token p values bound),
        tt,
      ),
      λ a v k le there named.
          let heard = receiver_heard at l plain there in
          lowers m clean to n k (native_over out go fails a v) le
          (over a k le v heard.0 (same v.scope v.roots heard.1) named),
    )

    calls : (key : ℕ) (args : List Held) (w : World S) → At on n w → ReceiverNames clean n r →
        Arguments clean n args →
        Leaves m clean to n (rules.host_called_or m out key r args f w go fails)
    calls key args w at receiver given =
        let values = trees_in args in
        let left : Option Receiver = receiver_left m.law w.host key values r in
        let a : Reply = m.law.call_reply w.host key (lent_held r) values in
        let w2 : World S = after n low key r args (record w { passed = w.passed + 1 }) in
        let there : At on n w2 = answers_at n low key args w at given r receiver in
        marks_or on to n out outs_now w (λ v1. rules.marked_or m
        (λ v2. out (unheard m.law (m.law.call_reply v1.host key (lent_held r) values) v2))
        (after n low key r args v1) (λ v2.
        rules.answered m out (receiver_left m.law v1.host key values r)
        (m.law.call_reply v1.host key (lent_held r) values) f v2 go fails)) at
        (marks_or on to n (λ v2. out (unheard m.law a v2))
        (λ v2 within. outs_now (unheard m.law a v2) (not_heard n a v2 within)) w2
        (λ v2. rules.answered m out left a f v2 go fails) there
        (answered left (left_names n low key args w at given r receiver)
        (left_plain key values w.host r) a (record w2 { passed = w2.passed + 1 }) there
        (lends_plain n low key args w at given r receiver) (
          omega (
            arith,
            lawful.replies_within w.host key (lent_held r) values,
            call_names n low r args w at receiver given,
          ),
          λ s. lawful.replies_clean w.host key (lent_held r) values
              (call_clean n low r args w at receiver given s),
        )))

    pub natives : (name : List ℕ) (args : List Held) (w : World S) → At on n w →
        ReceiverNames clean n r → LendsPlain r w.scope w.roots → Arguments clean n args →
        Leaves m clean to n (rules.native_or m out name r args f w go fails)
    natives name args w at receiver plain held =
        by_native (native_of m.law w.host name (rules.kinds_in (given r args))) where
          by_native : (o : Option Native) →
              Leaves m clean to n (rules.native_found_or m out o name r args f w go fails)
          by_native None =
              failing n (omega arith) (not_found name (values_in (given r args)) (rules.position m f)) w
              at plain (none_missing clean n name (values_in (given r args)) (rules.position m f))
          by_native (Some q) =
              by_test (Leaves m clean to n) (q.writes && first_is_read_only (given r args))
              (fails (Plain (NonPureCall name) (rules.position m f)) w)
              (rules.host_called_or m out q.key r args f w go fails)
              (λ not. failing n (omega arith) (Plain (NonPureCall name) (rules.position m f)) w at plain
              (omega arith, λ s. refl))
              (λ may. calls q.key args w at receiver held)
