-- What is promised of a test holds of any other test that agrees with it below n.
use Rattle.std.proofs.Common.{◌≡◌, ℕ, zero, suc, ◌<◌, Bool, ◌&&◌, ◌||◌, eqb, ltb, sym, refl, ap, ◌∙◌, ltb-true}
use Rattle.words.proofs.Tests.{by_test}
use Rattle.order.specs.Arcs.{StrictOrder}
use Rattle.order.specs.Nodes.{node_before}
use Rattle.flow_math.specs.Flow.{ResourceFlow}
use Rattle.flow_math.specs.Handover.{Handover}
use Rattle.flow_math.specs.Need.{Antichain, Need}
use Rattle.flow_math.specs.Heaviest.{need_of}
use Rattle.flow_math.proofs.Theorems.{need_only, need_of_need}
use Rattle.solver.specs.Sound.{Sound}

module _ (n : ℕ) (b c : ℕ → ℕ → Bool) (same : (i j : ℕ) → i < n → j < n → b i j ≡ c i j) where
  pub strict_carried : StrictOrder n b → StrictOrder n c
  strict_carried o =
      record {
        irreflexive = λ i h e. o.irreflexive i h (same i i h h ∙ e);
        transitive = λ i j k hi hj hk p q.
            sym (same i k hi hk) ∙ o.transitive i j k hi hj hk (same i j hi hj ∙ p) (same j k hj hk ∙ q);
      }

  antichain_carried : {S : ℕ → Bool} → Antichain n b S → Antichain n c S
  antichain_carried u i j hi hj s t e = u i j hi hj s t (same i j hi hj ∙ e)

  antichain_back : {S : ℕ → Bool} → Antichain n c S → Antichain n b S
  antichain_back u i j hi hj s t e = u i j hi hj s t (sym (same i j hi hj) ∙ e)

  need_carried : {d : ℕ → ℕ} {x : ℕ} → Need n b d x → Need n c d x
  need_carried N =
      record {
        set = N.set;
        unrelated = antichain_carried N.unrelated;
        weighs = N.weighs;
        most = λ S u. N.most S (antichain_back u);
      }

  handover_carried : {d : ℕ → ℕ} {f : ℕ → ℕ → ℕ} → Handover n b d f → Handover n c d f
  handover_carried F = record { along = λ i j hi hj p. sym (same i j hi hj) ∙ F.along i j hi hj p; rows = F.rows; cols = F.cols }

  -- the nodes' order agrees everywhere, since it asks the test below n alone
  nodes_same : (u v : ℕ) → node_before n b u v ≡ node_before n c u v
  nodes_same zero zero = refl
  nodes_same zero (suc j) = refl
  nodes_same (suc i) zero = refl
  nodes_same (suc i) (suc j) =
      by_test (ltb i n)
      (λ hi.
      by_test (ltb j n)
      (λ hj. ap (λ (t : Bool). ltb i n && (eqb j n || (ltb j n && t))) (same i j (ltb-true i n hi) (ltb-true j n hj)))
      (λ hj. rw hj))
      (λ hi. rw hi)

  flow_carried : {d : ℕ → ℕ} {a : ℕ} {g : ℕ → ℕ → ℕ} → ResourceFlow n b d a g → ResourceFlow n c d a g
  flow_carried G =
      record {
        into = G.into;
        out = G.out;
        start = G.start;
        finish = G.finish;
        along = λ u v hu hv p. sym (nodes_same u v) ∙ G.along u v hu hv p;
      }

  pub sound_carried : {d : ℕ → ℕ} {x : ℕ} {S : ℕ → Bool} {f : ℕ → ℕ → ℕ} → StrictOrder n b → Sound n b d x S f → Sound n c d x S f
  sound_carried {d} o s =
      record {
        unrelated = antichain_carried s.unrelated;
        wanted = s.wanted;
        weighs = s.weighs;
        need = s.need ∙ need_only n c d (need_of n b d) (strict_carried o) (need_carried (need_of_need n b d o));
        handover = handover_carried s.handover;
        reaches = s.reaches;
        flow = λ a h. flow_carried (s.flow a h);
        spare = s.spare;
      }
