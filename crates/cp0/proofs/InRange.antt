-- The registers in range, fact by fact; and a register that is set to what it may hold leaves them so.
use Rattle.std.proofs.Common.{◌≡◌, ℕ, Bool, true, false, eqb, sym, refl, ap, ◌∙◌, arith, eqb-true}
use Rattle.promise.specs.Pick.{pick, both}
use Rattle.tlb.proofs.StaysInRange.{both_true}
use Rattle.tlb.specs.PageMask.{legal_mask}
use Rattle.cp0.specs.declared.Cp0.{Cp0}
use Rattle.cp0.specs.Registers.{Index, EntryLo0, EntryLo1, Context, PageMask, Wired, EntryHi, Status, Cause, PRId, Config, set, kept_index, kept_entry_lo, kept_wired, kept_entry_hi, kept_context, kept_cause}
use Rattle.cp0.specs.Range.{random_in_range, status_in_range, config_in_range, entries_in_range, control_in_range, cp0_in_range}

pub split : (a b : Bool) → both a b ≡ true → (a ≡ true) × (b ≡ true)
split a b h = both_true a b h

pub join : (a b : Bool) → a ≡ true → b ≡ true → both a b ≡ true
join a b p q = rw (p, q)

pub record InRange (c : Cp0) : Type 0 where
  pub index_in : kept_index c.index ≡ c.index
  pub entrylo0_in : kept_entry_lo c.entrylo0 ≡ c.entrylo0
  pub entrylo1_in : kept_entry_lo c.entrylo1 ≡ c.entrylo1
  pub context_in : kept_context c.context ≡ c.context
  pub wired_in : kept_wired c.wired ≡ c.wired
  pub entryhi_in : kept_entry_hi c.entryhi ≡ c.entryhi
  pub pagemask_in : legal_mask c.pagemask ≡ true
  pub random_in : random_in_range c.random c.wired ≡ true
  pub status_in : status_in_range c.status ≡ true
  pub cause_in : kept_cause c.cause ≡ c.cause
  pub config_in : config_in_range c.config ≡ true
  pub prid_in : c.prid ≡ 0x0400

module _ (c : Cp0) where
  pub range_read : cp0_in_range c ≡ true → InRange c
  unfolding cp0_in_range entries_in_range control_in_range
  range_read h =
      let (e, k) = split _ _ h in
      let (e1, f1) = split _ _ e in
      let (e2, f2) = split _ _ f1 in
      let (e3, f3) = split _ _ f2 in
      let (e4, f4) = split _ _ f3 in
      let (e5, f5) = split _ _ f4 in
      let (e6, e7) = split _ _ f5 in
      let (k1, g1) = split _ _ k in
      let (k2, g2) = split _ _ g1 in
      let (k3, g3) = split _ _ g2 in
      let (k4, k5) = split _ _ g3 in
      record {
        index_in = eqb-true _ _ e1;
        entrylo0_in = eqb-true _ _ e2;
        entrylo1_in = eqb-true _ _ e3;
        context_in = eqb-true _ _ e4;
        wired_in = eqb-true _ _ e5;
        entryhi_in = eqb-true _ _ e6;
        pagemask_in = e7;
        random_in = k1;
        status_in = k2;
        cause_in = eqb-true _ _ k3;
        config_in = k4;
        prid_in = eqb-true _ _ k5;
      }

  pub range_made : InRange c → cp0_in_range c ≡ true
  unfolding cp0_in_range entries_in_range control_in_range
  range_made h = grind arith

-- what a register may hold, but for Random and Wired together
unfoldable pub may : ℕ → ℕ → Bool
may n v =
    pick (eqb n Index) (eqb (kept_index v) v)
    (pick (eqb n EntryLo0) (eqb (kept_entry_lo v) v)
    (pick (eqb n EntryLo1) (eqb (kept_entry_lo v) v)
    (pick (eqb n Context) (eqb (kept_context v) v)
    (pick (eqb n Wired) (eqb (kept_wired v) v)
    (pick (eqb n EntryHi) (eqb (kept_entry_hi v) v)
    (pick (eqb n PageMask) (legal_mask v)
    (pick (eqb n Status) (status_in_range v)
    (pick (eqb n Cause) (eqb (kept_cause v) v)
    (pick (eqb n Config) (config_in_range v)
    (pick (eqb n PRId) (eqb v 0x0400) true))))))))))

-- a fact of the field that is number k: of the new value where n is k, of the old one elsewhere
field : (P : ℕ → Type 0) (n k v old : ℕ) → may n v ≡ true → (may k v ≡ true → P v) → P old → P (pick (eqb n k) v old)
field P n k v old m new p = go (eqb n k) refl
  where
    go : (b : Bool) → eqb n k ≡ b → P (pick b v old)
    go true e = new (ap (λ (i : ℕ). may i v) (sym (eqb-true n k e)) ∙ m)
    go false e = p

pub set_in : (c : Cp0) (n v : ℕ) → may n v ≡ true → random_in_range (unfold set in (set c n v).random) (unfold set in (set c n v).wired) ≡ true → InRange c → InRange (set c n v)
unfolding set may
set_in c n v m r h =
    record {
      index_in = field (λ (x : ℕ). kept_index x ≡ x) n Index v c.index m (eqb-true _ _) h.index_in;
      entrylo0_in = field (λ (x : ℕ). kept_entry_lo x ≡ x) n EntryLo0 v c.entrylo0 m (eqb-true _ _) h.entrylo0_in;
      entrylo1_in = field (λ (x : ℕ). kept_entry_lo x ≡ x) n EntryLo1 v c.entrylo1 m (eqb-true _ _) h.entrylo1_in;
      context_in = field (λ (x : ℕ). kept_context x ≡ x) n Context v c.context m (eqb-true _ _) h.context_in;
      wired_in = field (λ (x : ℕ). kept_wired x ≡ x) n Wired v c.wired m (eqb-true _ _) h.wired_in;
      entryhi_in = field (λ (x : ℕ). kept_entry_hi x ≡ x) n EntryHi v c.entryhi m (eqb-true _ _) h.entryhi_in;
      pagemask_in = field (λ (x : ℕ). legal_mask x ≡ true) n PageMask v c.pagemask m (λ p. p) h.pagemask_in;
      random_in = r;
      status_in = field (λ (x : ℕ). status_in_range x ≡ true) n Status v c.status m (λ p. p) h.status_in;
      cause_in = field (λ (x : ℕ). kept_cause x ≡ x) n Cause v c.cause m (eqb-true _ _) h.cause_in;
      config_in = field (λ (x : ℕ). config_in_range x ≡ true) n Config v c.config m (λ p. p) h.config_in;
      prid_in = field (λ (x : ℕ). x ≡ 0x0400) n PRId v c.prid m (eqb-true _ _) h.prid_in;
    }
