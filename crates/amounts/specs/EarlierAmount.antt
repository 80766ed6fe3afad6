-- A bill's amount as it was before document 02's paper 3, for what is said of ledgers stored then. Assumes nothing.
use Rattle.std.specs.Prelude.{ℕ, ◌*◌}
use Rattle.basics.specs.Lists.{total}
use Rattle.rates.specs.declared.Terms.{Terms}
use Rattle.rates.specs.Rates.{certified_class}
use Rattle.amounts.specs.declared.Bill.{Bill}
use Rattle.amounts.specs.Amounts.{shares, rate_of}

-- all of a share's kWh at the rate of its class on the first day, over the shares
unfoldable pub earlier_amount : Terms → Bill → ℕ
earlier_amount terms bill = total (λ s. s.kwh * rate_of terms bill (certified_class s.certificate terms.kind bill.first)) (shares terms bill)
