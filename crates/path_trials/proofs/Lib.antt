mod SmallGraphs
