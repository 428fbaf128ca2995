mod SummaryFacts
