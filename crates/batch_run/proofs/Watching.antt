-- What a run reports to its watcher, from what answering reports.
use Rattle.batch_run.proofs.Words.{◌≡◌, ◌≢◌, ◌⊎◌, [], true, false, Ok, Err, inl, inr, refl, Output, GraphData, Asked, Algebra, Cause, NoFile, RunFault, Settings, Progress, fault_of, without_diffusions}
use Rattle.batch_run.specs.Reports.{IsFactoringTold, IsTold, ReportedFirst, Watched}
use Rattle.batch_run.proofs.CauseCases.{no_setting}

module _ {V S W : Type 0} (A : Algebra V) (how : Settings) (IsRead : GraphData → Asked → Type 0) (may_become : S → Progress → S → Type 0) (old : S) (out out_after : Output W) where
  -- a run that ends before it answers reports nothing
  pub watched_none : (f : RunFault) → (f.file ≢ NoFile) ⊎ (f.number ≡ 43) → Watched A how IsRead may_become old old out out_after (Err f)
  watched_none f early = record {
    reports = [];
    are = record {
      all = tt;
      first = λ file other. elim early [
        | inl input ↦ absurd (input file)
        | inr setting ↦ absurd (other setting)
      ];
      nothing = λ _. refl;
      untouched = λ _. refl;
    };
    told = refl;
  }

  -- what it reports of inputs that were read, from what answering them reports
  module _ (new : S) (g : GraphData) (asked : Asked) (read : IsRead g asked) where
    pub watched_all : ReportedFirst A how g asked (without_diffusions how) (IsTold g how.factors) (IsFactoringTold g) may_become old new out out_after true → Watched A how IsRead may_become old new out out_after (Ok tt)
    watched_all w = record {
      reports = w.0;
      are = record { all = (g, asked, read, w.1); first = tt; nothing = tt; untouched = tt };
      told = w.2;
    }

    pub watched_first : (cause : Cause) → ReportedFirst A how g asked (without_diffusions how) (IsTold g how.factors) (IsFactoringTold g) may_become old new out out_after false →
        Watched A how IsRead may_become old new out out_after (Err (fault_of cause))
    watched_first cause w = record {
      reports = w.0;
      are = record {
        all = tt;
        first = λ _ _. (g, asked, read, w.1);
        nothing = λ other. absurd (other refl);
        untouched = λ setting. absurd (no_setting cause setting);
      };
      told = w.2;
    }
