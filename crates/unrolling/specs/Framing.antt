-- One cycle of a side in the proof graph, by the literals given to its variables and the import. Assumes nothing.
use Rattle.std.specs.Prelude.{◌≡◌, ℕ, ◌+◌, ◌*◌, ◌≤◌, ◌<◌, get_or, take}
use Rattle.std.proofs.Math.Path.{ap, ap₂}
use Rattle.std.proofs.Common.{sym, ◌∙◌, arith}
use mathlib.Core.List.{List, ◌++◌, map, map-append}
use Rattle.words.specs.Layout.{SMALL, MOST-NODES, IMPORTED}
use Rattle.words.specs.Region.{region}
use Rattle.model.specs.Literal.{FALSE}
use Rattle.model.specs.Lists.{lookup}
use Rattle.model.specs.Transition.{Port, StateBit, TransitionSystem}
use Rattle.model.specs.Equivalence.{Import, remap_literal, import_aig, frame_variables, frame_of, import_frame}
use Rattle.aig.specs.Graph.{graph_of}
use Rattle.aig.specs.Made.{Ready, Same, same_trans}
use Rattle.import.specs.Importing.{beyond, Importing, Sourced, imported-is, remap_inside, remap_take}
use Rattle.lowering.specs.Firsts.{firsts, pairs, pairs-zip, Below, Mapped, firsts-map}
use Rattle.transition.specs.Gather.{map-map}
use Rattle.unrolling.specs.Side.{conjunctions_of, rhs-same, graph_same, formed-same, conjunctions-same}
use Rattle.transition.specs.Side.{Formed, Stands}
use Rattle.unrolling.specs.Give.{given, given-same, given-ready, given-graph, given-at, given_append, lookup-covered, lookup-below, below_append, below-pairs, keys-pairs}
use Rattle.transition.specs.declared.system.System.{System}

-- What a frame asks: a side in order, room for its conjunctions, and literals of the proof graph.
pub record Framable (y : System) (c : ℕ) (w ins sts : List ℕ) : Type 0 where
  pub formed : Formed y w
  pub ready : Ready c w
  pub room : c + conjunctions_of y w ≤ MOST-NODES
  pub inputs : Below (c * 2) y.input_count ins
  pub states : Below (c * 2) y.state_count sts

-- From c nodes in w a frame made c' nodes in w', with the outputs and next states of the model.
pub record Framed (y : System) (c : ℕ) (w ins sts : List ℕ) (c' : ℕ) (w' outs nxt : List ℕ) : Type 0 where
  pub ready : Ready c' w'
  pub same : Same beyond w w'
  pub grows : c ≤ c'
  pub within : c' ≤ c + conjunctions_of y w
  pub outputs : Below (c' * 2) y.output_count outs
  pub next : Below (c' * 2) y.state_count nxt
  pub is : (s : TransitionSystem) → Stands y w s
      → record { aig = graph_of c' w'; outputs = firsts y.output_count outs; next = firsts y.state_count nxt }
      ≡ import_frame s (graph_of c w) (firsts y.input_count ins) (firsts y.state_count sts)

-- the pairs of variables and literals of a cycle
abbrev pub frame_pairs : System → List ℕ → List ℕ → List (ℕ × ℕ)
frame_pairs y ins sts = pairs y.input_count y.inputs ins ++ pairs y.state_count y.variables sts

module _ (y : System) (c : ℕ) (w ins sts : List ℕ) (f : Framable y c w ins sts) where
  keys : map (λ (v : ℕ × ℕ). v.0) (frame_pairs y ins sts) ≡ firsts y.input_count y.inputs ++ firsts y.state_count y.variables
  keys =
      map-append (λ (v : ℕ × ℕ). v.0) (pairs y.input_count y.inputs ins) (pairs y.state_count y.variables sts)
      ∙ ap₂ (λ (a b : List ℕ). a ++ b) (keys-pairs y.input_count y.inputs ins) (keys-pairs y.state_count y.variables sts)

  same-given : Same beyond w (given (frame_pairs y ins sts) w)
  same-given = given-same (frame_pairs y ins sts) w

  -- at each variable stands what the model looks up
  looked_up : (j : ℕ) → 0 < j → j < y.count → get_or (region (y.base + SMALL) w) j 0 ≡ 0
      → lookup FALSE (frame_pairs y ins sts) j ≡ get_or (region IMPORTED (given (frame_pairs y ins sts) w)) j 0
  looked_up j h k e =
      lookup-covered 0 (get_or (region IMPORTED w) j 0) (frame_pairs y ins sts) j (rw keys (f.formed.covered j h k e))
      ∙ sym (given-at (frame_pairs y ins sts) w j f.ready.long (omega (arith, f.formed.small)))

  -- what the import asks
  pub sourced : Sourced y.base y.count c (given (frame_pairs y ins sts) w)
  sourced =
      let q = rhs-same y w _ f.formed same-given in
      record {
        low = f.formed.low;
        high = f.formed.high;
        ready = given-ready (frame_pairs y ins sts) c w f.ready;
        some = f.formed.some;
        small = f.formed.small;
        ordered = (formed-same y w _ f.formed same-given).ordered;
        room = rw (conjunctions-same y w _ f.formed same-given) f.room;
        given = rw q (λ j k h e. rw (← looked_up j h k e)
            (lookup-below (c * 2) 0 (frame_pairs y ins sts) j (omega (arith, f.ready.positive))
            (below_append (c * 2) _ _ (below-pairs (c * 2) _ _ _ f.inputs) (below-pairs (c * 2) _ _ _ f.states))));
      }

  variables_are : (s : TransitionSystem) → Stands y w s → frame_pairs y ins sts ≡ frame_variables s (firsts y.input_count ins) (firsts y.state_count sts)
  unfolding frame_variables
  variables_are s t = simp pairs-zip (rw (t.inputs, t.variables))

  module _ (c' : ℕ) (w' outs nxt : List ℕ) (im : Importing y.base y.count c (given (frame_pairs y ins sts) w) y.count c' w')
      (mo : Mapped (remap_literal (region IMPORTED w')) y.output_count y.outputs outs) (mn : Mapped (remap_literal (region IMPORTED w')) y.state_count y.next nxt) where
    imported : (s : TransitionSystem) → Stands y w s
        → record { aig = graph_of c' w'; imported = take y.count (region IMPORTED w') }
        ≡ import_aig (frame_variables s (firsts y.input_count ins) (firsts y.state_count sts)) s.aig (graph_of c w)
    imported s t =
        let q = rhs-same y w _ f.formed same-given in
        imported-is y.base y.count c _ c' w' im (frame_pairs y ins sts) (rw q (record { at = λ i k h e. looked_up i h k e }))
        ∙ rw (graph_same y w _ f.formed same-given, t.aig, given-graph, variables_are s t)

    -- literals of the source, remapped
    remapped : {A : Type 0} (n : ℕ) (xs zs : List ℕ) (g : A → ℕ) (bs : List A) → Below (y.count * 2) n xs → Mapped (remap_literal (region IMPORTED w')) n xs zs
        → firsts n xs ≡ map g bs → firsts n zs ≡ map (λ a. remap_literal (take y.count (region IMPORTED w')) (g a)) bs
    remapped n xs zs g bs b m e =
        firsts-map (remap_literal (take y.count (region IMPORTED w'))) n xs zs (record { at = λ i h. m.at i h ∙ sym (remap_take y.count (region IMPORTED w') (get_or xs i 0) (b.at i h)) })
        ∙ ap (λ (ls : List ℕ). map (remap_literal (take y.count (region IMPORTED w'))) ls) e
        ∙ map-map (remap_literal (take y.count (region IMPORTED w'))) g bs

    remapped_below : (n : ℕ) (xs zs : List ℕ) → Below (y.count * 2) n xs → Mapped (remap_literal (region IMPORTED w')) n xs zs → Below (c' * 2) n zs
    remapped_below n xs zs b m = record { at = λ i h. rw (m.at i h) (remap_inside y.count c' w' (get_or xs i 0) im.inside (b.at i h)) }

    parts : (s : TransitionSystem) → Stands y w s
        → record { aig = graph_of c' w'; outputs = firsts y.output_count outs; next = firsts y.state_count nxt }
        ≡ frame_of s (record { aig = graph_of c' w'; imported = take y.count (region IMPORTED w') })
    unfolding frame_of
    parts s t =
        ap₂ (λ (a b : List ℕ). record { aig = graph_of c' w'; outputs = a; next = b })
        (remapped _ _ _ (λ (p : Port). p.literal) s.outputs f.formed.outputs mo t.outputs)
        (remapped _ _ _ (λ (b : StateBit). b.next) s.states f.formed.next mn t.next)

    whole : (s : TransitionSystem) → Stands y w s
        → record { aig = graph_of c' w'; outputs = firsts y.output_count outs; next = firsts y.state_count nxt }
        ≡ import_frame s (graph_of c w) (firsts y.input_count ins) (firsts y.state_count sts)
    unfolding import_frame
    whole s t = parts s t ∙ ap (λ (i : Import). frame_of s i) (imported s t)

    -- the whole frame
    pub framed : Framed y c w ins sts c' w' outs nxt
    framed =
        record {
          ready = im.ready;
          same = same_trans same-given im.same;
          grows = im.grows;
          within = omega (arith, im.within, conjunctions-same y w _ f.formed same-given);
          outputs = remapped_below _ _ _ f.formed.outputs mo;
          next = remapped_below _ _ _ f.formed.next mn;
          is = whole;
        }

module _ (y : System) (c : ℕ) (w ins sts w₁ w₂ : List ℕ) (f : Framable y c w ins sts)
    (e₁ : w₁ ≡ given (pairs y.state_count y.variables sts) w) (e₂ : w₂ ≡ given (pairs y.input_count y.inputs ins) w₁) where
  -- first the states' literals, then the inputs'
  both-given : w₂ ≡ given (frame_pairs y ins sts) w
  both-given = e₂ ∙ ap (λ (x : List ℕ). given (pairs y.input_count y.inputs ins) x) e₁ ∙ sym (given_append (pairs y.input_count y.inputs ins) _ w)

  pub sourced_after : Sourced y.base y.count c w₂
  sourced_after = rw both-given (sourced y c w ins sts f)

  pub framed_after : (c' : ℕ) (w' outs nxt : List ℕ) → Importing y.base y.count c w₂ y.count c' w'
      → Mapped (remap_literal (region IMPORTED w')) y.output_count y.outputs outs → Mapped (remap_literal (region IMPORTED w')) y.state_count y.next nxt
      → Framed y c w ins sts c' w' outs nxt
  framed_after c' w' outs nxt im mo mn = framed y c w ins sts f c' w' outs nxt (rw both-given at im) mo mn
