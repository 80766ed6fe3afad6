-- Document 02, papers 1 and 3: examples of bills with shares and of bills with a change inside, with their rates, amounts and caps. Assumes
-- nothing.
use Rattle.std.specs.Prelude.{◌≡◌, List, [], ◌∷◌, map, ℕ}
use Rattle.rates.specs.declared.Fuel.{Fuel}
use Rattle.rates.specs.declared.Fuel.TheVariants.{Electricity, Gas}
use Rattle.rates.specs.declared.Kind.{Kind}
use Rattle.rates.specs.declared.Kind.TheVariants.{Fixed, Variable, Flexible, Index}
use Rattle.rates.specs.declared.Certificate.{Certificate}
use Rattle.rates.specs.declared.Certificate.TheVariants.{None}
use Rattle.rates.specs.declared.Certificate.TheVariants as certificate
use Rattle.rates.specs.declared.Terms.{Terms}
use Rattle.amounts.specs.declared.Bill.{Bill}
use Rattle.amounts.specs.Amounts.{amount, cap, rate}

-- a row of the tables: the terms that a bill takes; its first and last day, kWh, ETII share, QHS share, R and S; its rate, amount and cap
pub record AmountExample : Type 0 where
  pub terms : Terms
  pub bill : Bill
  pub figures : List ℕ

abbrev pub amount_example : Fuel → Kind → Certificate → (first last kwh etii qhs R S rate amount cap : ℕ) → AmountExample
amount_example fuel kind certificate first last kwh etii qhs R S rate amount cap = record {
  terms = record { fuel = fuel; kind = kind; certificate = certificate };
  bill = record { contract = 0; first = first; last = last; kwh = kwh; etii = etii; qhs = qhs; reference = R; supply = S };
  figures = rate ∷ amount ∷ cap ∷ [];
}

-- 500 kWh are the rest, 300 the ETII share, 200 the QHS share: with any certificate or none, before day 511 too; the old QHS minimum, and
-- from day 792 on the new one except for a fixed contract entered before it; of gas; with one share alone, under a certificate, and where it is
-- all of the bill; where the baseline rate is 0; without shares, by the certificate; and the guidance's own example of energy passed on, its Table 1
unfoldable pub shares_examples : List AmountExample
shares_examples =
    amount_example Electricity Flexible None 486 515 1000 300 200 35000 58330 19610 78919900 78919900
    ∷ amount_example Electricity Flexible (certificate.Etii 486) 486 515 1000 300 200 35000 58330 19610 78919900 78919900
    ∷ amount_example Electricity Flexible (certificate.Qhs 511) 762 791 1000 300 200 35000 58330 19610 78919900 78919900
    ∷ amount_example Electricity Flexible (certificate.Qhs 511) 792 820 1000 300 200 35000 58330 19610 90439900 90439900
    ∷ amount_example Electricity (Fixed 0 791) None 792 820 1000 300 200 35000 58330 19610 78919900 78919900
    ∷ amount_example Electricity (Fixed 0 792) None 792 820 1000 300 200 35000 58330 19610 90439900 90439900
    ∷ amount_example Gas Flexible None 486 515 1000 300 200 20000 30000 6970 52512300 56852300
    ∷ amount_example Electricity Flexible (certificate.Etii 486) 486 515 1000 300 0 35000 58330 19610 34181900 34181900
    ∷ amount_example Electricity Flexible (certificate.Etii 486) 486 515 1000 0 200 35000 58330 19610 64348000 64348000
    ∷ amount_example Electricity Flexible None 486 515 300 300 0 35000 58330 19610 20454900 20454900
    ∷ amount_example Electricity Flexible (certificate.Etii 486) 486 515 200 0 200 35000 58330 19610 48660000 48660000
    ∷ amount_example Electricity Flexible None 486 515 1000 300 200 30200 67030 0 79090000 96319900
    ∷ amount_example Electricity Flexible (certificate.Etii 486) 486 515 1000 0 0 35000 58330 68183 68183000 68183000
    ∷ amount_example Gas Flexible None 511 540 3235000 1294000 1132250 11170 15190 4700 100462925000 127908341500
    ∷ []

-- bills with a change inside, and on either side of it
unfoldable pub stretch_examples : List AmountExample
stretch_examples =
    -- an ETII certificate of a bill of 1,000 kWh over 30 days, from the first day on, the second (33 kWh before it), the eleventh (333), the last (966) and the
    -- day after the last
    amount_example Electricity Flexible (certificate.Etii 486) 486 515 1000 0 0 31980 67030 67640 67640000 68183000
    ∷ amount_example Electricity Flexible (certificate.Etii 487) 486 515 1000 0 0 31980 67030 17800 65995280 66580091
    ∷ amount_example Electricity Flexible (certificate.Etii 496) 486 515 1000 0 0 31980 67030 17800 51043280 52008191
    ∷ amount_example Electricity Flexible (certificate.Etii 515) 486 515 1000 0 0 31980 67030 17800 19494560 21261482
    ∷ amount_example Electricity Flexible (certificate.Etii 516) 486 515 1000 0 0 31980 67030 17800 17800000 19610000
    -- where the baseline rate, which is answered, is 0; with fewer kWh than days, none of them in the first four; of gas; over day 792, which changes nothing
    ∷ amount_example Electricity Flexible (certificate.Etii 496) 486 515 1000 0 0 30200 67030 0 41554100 52008191
    ∷ amount_example Electricity Flexible (certificate.Etii 490) 486 515 7 0 0 31980 67030 17800 473480 477281
    ∷ amount_example Gas Flexible (certificate.Etii 496) 486 515 1000 0 0 20000 30000 6970 22391707 22391707
    ∷ amount_example Electricity Flexible (certificate.Etii 511) 782 801 1001 0 0 40000 50000 68183 68251183 68251183
    -- a QHS certificate that begins inside; one from before on over day 792, whose first ten of twenty days have 500 of 1,001 kWh; the same of fixed contracts,
    -- of which those entered on day 791 keep the old minimum, whatever their price-fix day
    ∷ amount_example Electricity Flexible (certificate.Qhs 520) 511 540 1000 0 0 35000 58330 19610 176193000 176193000
    ∷ amount_example Electricity Flexible (certificate.Qhs 511) 782 801 1001 0 0 40000 50000 160000 189017600 189017600
    ∷ amount_example Electricity (Fixed 0 791) (certificate.Qhs 511) 782 801 1001 0 0 40000 50000 160000 160160000 160160000
    ∷ amount_example Electricity (Fixed 800 791) (certificate.Qhs 511) 782 801 1001 0 0 40000 50000 160000 160160000 160160000
    ∷ amount_example Electricity (Fixed 0 792) (certificate.Qhs 511) 782 801 1001 0 0 40000 50000 160000 189017600 189017600
    ∷ amount_example Electricity (Fixed 791 800) (certificate.Qhs 511) 782 801 1001 0 0 40000 50000 160000 189017600 189017600
    -- three stretches, of 200, 300 and 501 kWh; with one day of the old minimum; from day 792 on, and from the day after it on, two; three of gas
    ∷ amount_example Electricity Flexible (certificate.Qhs 786) 782 801 1001 0 0 40000 50000 19610 160939600 160939600
    ∷ amount_example Electricity Flexible (certificate.Qhs 791) 782 801 1001 0 0 40000 50000 19610 125842100 125842100
    ∷ amount_example Electricity Flexible (certificate.Qhs 792) 782 801 1001 0 0 40000 50000 19610 118822600 118822600
    ∷ amount_example Electricity Flexible (certificate.Qhs 793) 782 801 1001 0 0 40000 50000 19610 108923100 108923100
    ∷ amount_example Gas Flexible (certificate.Qhs 790) 788 793 10 0 0 50000 30000 6970 1626010 1626010
    -- gas with the new minimum from a bill's second day on, and on its last
    ∷ amount_example Gas Flexible (certificate.Qhs 511) 791 794 10 0 0 50000 30000 221700 2323400 2323400
    ∷ amount_example Gas Flexible (certificate.Qhs 511) 788 792 11 0 0 50000 30000 221700 2478600 2478600
    -- a QHS share across day 792: 3 of 7 kWh in 2 of 4 days; 1 of 4 kWh in the first of 4 days, which is no portion of the 2 kWh that the bill has by then;
    -- of fixed contracts entered on day 791 and 792; with an ETII share and no rest
    ∷ amount_example Electricity Flexible None 790 793 10 0 7 40000 50000 19610 1409230 1409230
    ∷ amount_example Electricity Flexible (certificate.Etii 791) 791 794 10 3 4 40000 50000 19610 1076179 1076179
    ∷ amount_example Electricity (Fixed 0 791) (certificate.Etii 791) 791 794 10 3 4 40000 50000 19610 903379 903379
    ∷ amount_example Electricity (Fixed 0 792) (certificate.Etii 791) 791 794 10 3 4 40000 50000 19610 1076179 1076179
    ∷ amount_example Gas Flexible None 791 794 11 6 5 20000 30000 6970 1180546 1342246
    -- certificates that begin after day 792, of each kind
    ∷ amount_example Electricity Flexible (certificate.Etii 800) 792 811 1001 0 0 40000 50000 19610 48821983 48821983
    ∷ amount_example Gas (Fixed 0 791) (certificate.Etii 830) 821 851 1000 0 0 20000 30000 6970 23385910 23385910
    ∷ amount_example Electricity Variable (certificate.Etii 800) 792 811 1001 0 0 40000 50000 19610 48821983 48821983
    ∷ amount_example Electricity Index (certificate.Qhs 830) 821 851 1000 0 0 40000 50000 19610 160182900 160182900
    -- S below a QHS minimum: the old one, so that the discount begins on day 792; both gas minimums on either side of it; and far above them
    ∷ amount_example Electricity Flexible (certificate.Qhs 511) 782 801 1001 0 0 40000 30000 0 8817600 8817600
    ∷ amount_example Gas Flexible (certificate.Qhs 786) 782 801 1001 0 0 20000 7000 0 2505000 3899000
    ∷ amount_example Electricity Flexible (certificate.Qhs 520) 511 540 1000 0 0 90000 80000 19610 327883000 327883000
    ∷ amount_example Electricity Flexible (certificate.Qhs 511) 782 801 1001 0 0 999999 999999 9659990 9698507590 9698507590
    -- the most kWh at the highest prices
    ∷ amount_example Gas Flexible (certificate.Qhs 700) 690 800 100000000 0 0 999999 999999 6970 902955036137220 902955036137220
    ∷ []

-- the examples have the rates, amounts and caps given
abbrev pub FiguresGiven : List AmountExample → Type 0
FiguresGiven es = map (λ e. rate e.terms e.bill ∷ amount e.terms e.bill ∷ cap e.terms e.bill ∷ []) es ≡ map (λ e. e.figures) es

pub record AmountExamples : Type 0 where
  pub of_shares : FiguresGiven shares_examples
  pub of_stretches : FiguresGiven stretch_examples
