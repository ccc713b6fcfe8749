-- The search for a typing goes through all chunks: where it ends it has found one, and if there is
-- one
-- it does not stop.
use Rattle.std.proofs.Common.{◌≡◌, ℕ, zero, suc, ◌<◌, ◌≤◌, ◌⊎◌, List, [], ◌∷◌, length, replicate, Option, Some, None, Result, Ok, Err, refl, sym, ap, subst, ◌∙◌, inl, inr, arith}
use Rattle.std.specs.Prelude.{slice_get}
use Rattle.std.proofs.lemmas.Bool.{cases_lt}
use Rattle.std.proofs.lemmas.List.{get_or-replicate, length-replicate, get_or_past}
use Rattle.grain_program.specs.declared.code.instruction_set.Op.{Op}
use Rattle.grain_program.specs.declared.code.parts.Chunk.{Chunk}
use Rattle.grain_program.specs.declared.verifier.refusals.Refusal.{Refusal}
use Rattle.grain_program.specs.View.{View}
use Rattle.grain_program.specs.Decoding.{op_at}
use Rattle.grain_program.specs.Effects.{effect_of}
use Rattle.grain_program.specs.Layout.{layout_fault}
use Rattle.grain_program.specs.Starts.{Start}
use Rattle.grain_program.specs.Rules.{Splits}
use Rattle.grain_program.specs.Shapes.{Shape, bare, shape_at}
use Rattle.grain_program.specs.Typing.{In, Agrees, Typing, HasTyping, AnalysisState, ◌>>=◌, nothing_seen, analyse_chunk, analyse_from, analysis}
use Rattle.grain_program.proofs.Grows.{Stays, Done, Below}
use Rattle.grain_program.proofs.ShapeSteps.{then_ok}
use Rattle.grain_program.proofs.Worklists.{None_out, Sound, chunk_ok, chunk_fits}

none_seen : (n a : ℕ) (s : Shape) → shape_at (replicate n None) a ≡ Some s → ⊥
none_seen n a s e = at (cases_lt a n) where
  at : (a < n) ⊎ (n ≤ a) → ⊥
  at (inl lt) = let none : None ≡ Some s = sym (get_or-replicate n a None None lt) ∙ e in cc
  at (inr le) = let none : None ≡ Some s =
      sym (get_or_past (replicate n None) a None (omega (
        arith,
        length-replicate {A =
            Option Shape} n None,
      ))) ∙ e in cc

-- the chunks of a sound layout
module _ (p : View) (chunks : List Chunk) (laid : layout_fault (length p.code) chunks ≡ None)
    (w : Splits p chunks) where
  -- these are some of the chunks
  abbrev Among : List Chunk → Type 0
  Among cs =
      (j : ℕ) (c : Chunk) → slice_get cs j ≡ Some c → (i : ℕ) × (slice_get chunks i ≡ Some c)

  -- the chunks are done, and their entries are known
  record Over (cs : List Chunk) (f f' : AnalysisState) : Type 0 where
    sound : Sound p chunks laid w f'
    over : f'.waiting ≡ []
    stays : Stays f f'
    entries : (j : ℕ) (c : Chunk) → slice_get cs j ≡ Some c → shape_at f'.shapes c.entry ≡ Some bare

  from_ok : (cs : List Chunk) (f f' : AnalysisState) → Among cs → Sound p chunks laid w f →
      f.waiting ≡ [] → analyse_from p cs f ≡ Ok f' → Over cs f f'
  from_ok [] f f' among sound e ok =
      let same : f ≡ f' = cc in
      subst (Over [] f) same (record {
        sound = sound;
        over = e;
        stays = λ a s k. k;
        entries =
            λ j c k. absurd cc;
      })
  from_ok (c ∷ cs) f f' among sound e ok =
      let t = then_ok (analyse_chunk p c f) (λ g. analyse_from p cs g) f' ok in
      let i = among 0 c refl in
      let s = chunk_ok p chunks laid w i.0 c i.1 f t.0 sound e t.1 in
      let more = from_ok cs t.0 f' (λ j d k. among (suc j) d k) s.taken.sound s.taken.over t.2 in
      record {
        sound = more.sound;
        over = more.over;
        stays = λ a x k. more.stays a x (s.taken.stays a x k);
        entries = λ j d k. entry (more.stays c.entry bare s.entry) more.entries j d k;
      } where
        entry : shape_at f'.shapes c.entry ≡ Some bare → ((j : ℕ) (d : Chunk)
            → slice_get cs j ≡ Some d → shape_at f'.shapes d.entry ≡ Some bare)
            → (j : ℕ) (d : Chunk) → slice_get (c ∷ cs) j ≡ Some d
            → shape_at f'.shapes d.entry ≡ Some bare
        entry first later zero d k = let same : c ≡ d =
            cc in subst (λ (x : Chunk). shape_at f'.shapes x.entry ≡ Some bare) same first
        entry first later (suc j) d k = later j d k

  from_fits : (typing : ℕ → Option Shape) → Typing p chunks typing
      → (cs : List Chunk) (f : AnalysisState) → Among cs → Sound p chunks laid w f → f.waiting ≡ []
      → Below typing f
      → (f' : AnalysisState) × (analyse_from p cs f ≡ Ok f')
  from_fits typing y [] f among sound e below = (f, refl)
  from_fits typing y (c ∷ cs) f among sound e below =
      let i = among 0 c refl in
      let t = chunk_fits p chunks laid w i.0 c i.1 typing y f sound e below in
      let s = chunk_ok p chunks laid w i.0 c i.1 f t.0 sound e t.1 in
      let more =
      from_fits typing y cs t.0 (λ j d k. among (suc j) d k) s.taken.sound s.taken.over t.2 in (
        more.0,
        ap (λ (x : Result AnalysisState Refusal). x >>= λ g. analyse_from p cs g) t.1
            ∙ more.1,
      )

  nothing_sound : Sound p chunks laid w (nothing_seen (length p.code))
  nothing_sound = record {
    long = length-replicate {A = Option Shape} (length p.code) None;
    starts = λ a s k. absurd (none_seen (length p.code) a s k);
    known = λ a i. absurd i;
    done = λ a s k. absurd (none_seen (length p.code) a s k);
  }

  -- a search that is not refused has found a typing
  pub has_typing : (f : AnalysisState) → analysis p chunks ≡ Ok f → HasTyping p chunks
  has_typing f ok = (
    shape_at f.shapes,
    record {
      entries = o.entries;
      steps = λ i c a r s g st is k. at i c a r s
          g st is (o.sound.done a s k);
    },
  ) where
    o : Over chunks (nothing_seen (length p.code)) f
    o = from_ok chunks (nothing_seen (length p.code)) f (λ j c k. (j, k)) nothing_sound refl ok

    at : (i : ℕ) (c : Chunk) (a : ℕ) (r : Op × ℕ) (s : Shape) → slice_get chunks i ≡ Some c
        → Start p.code c a → op_at p.code a ≡ Some r → In a f.waiting
        ⊎ (None_out p chunks laid w a ⊎ Done p chunks f a s)
        → Agrees p (shape_at f.shapes) c.max_stack a r.1 (effect_of p r.0) s
    at i c a r s g st is (inl j) = absurd (subst (In a) o.over j)
    at i c a r s g st is (inr (inl out)) = absurd out
    at i c a r s g st is (inr (inr d)) = d i c r g st is

  -- where there is a typing, the search is not refused
  pub never_stops : (typing : ℕ → Option Shape) → Typing p chunks typing → (r : Refusal)
      → analysis p chunks ≡ Err r → ⊥
  never_stops typing y r e =
      let q =
      from_fits typing y chunks (nothing_seen (length p.code)) (λ j c k. (j, k)) nothing_sound
      refl (λ a s k. absurd (none_seen (length p.code) a s k)) in
      let bad : Ok q.0 ≡ Err r = sym q.1 ∙ e in
      cc
